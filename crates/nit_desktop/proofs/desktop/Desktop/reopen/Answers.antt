use Rattle.std.proofs.Common.{ap, subst, sym, ◌*◌, ◌∙◌, ◌≡◌}
use Rattle.nit_desktop.proofs.Lemmas.{IsDesktop, ServerModel, State, clean_seen, clean_words}
use Rattle.nit_desktop.proofs.Lemmas.{only_opens, opens_on, owns_none, pixel, state_of}
use Rattle.nit_desktop.proofs.desktop.Desktop.reopen.Goals as goal

-- where nothing is loaded no raw word changes
words : (g : Rattle.nit_desktop.proofs.desktop.Desktop.reopen.Given.Over) (c : goal.After-facts-2 g)
    → c.reopen.new.self.raw ≡ c.self.inside.screen.raw
words g c =
    let s = state_of c.self.inside.screen.serving in
    let over = rw (← c.self.view_is) at c.requires.over in
    let area = ap (λ (z : ServerModel). z.config.width * z.config.height) c.reopen.ensures.serving in
    clean_words _ _ _ _ _ c.self.inside.screen.raw c.reopen.new.self.raw
    (λ k. owns_none s c.args.sid over c.self.invariant.live (pixel s.config.width k))
    (c.facts-2.ensures.pixels ∙ area ∙ sym c.facts.ensures.pixels) c.reopen.ensures.painted

pub invariant_of-self : goal.invariant_of-self
invariant_of-self g c =
    let s = state_of c.self.inside.screen.serving in
    let live = c.self.invariant.live in
    let lt = rw (← c.self.view_is) at c.requires.session in
    let over = rw (← c.self.view_is) at c.requires.over in
    let state_ = only_opens c.self.inside.screen.serving c.reopen.new.self.serving c.args.sid c.args.label
    c.reopen.ensures.serving over live in
    subst (λ (z : State). IsDesktop z c.reopen.new.self.raw c.self.inside.left) (sym state_)
    (rw (words g c) (opens_on s c.args.sid c.args.label c.self.inside.screen.raw c.self.inside.left lt
    (c.live_sessions_stay.ensures.opened s c.args.sid c.args.label live)
    (c.openings_keep_all.ensures.raw s c.args.sid c.args.label c.self.inside.screen.raw live over
    c.self.invariant.raw_words)
    (c.openings_keep_all.ensures.below s c.args.sid c.args.label live over c.self.invariant.named.1) c.self.invariant))

pub returns-clause-state : goal.returns-clause-state
returns-clause-state g c =
    let over = rw (← c.self.view_is) at c.requires.over in
    rw (← c.self.view_is) (only_opens c.self.inside.screen.serving c.reopen.new.self.serving c.args.sid c.args.label
    c.reopen.ensures.serving over c.self.invariant.live)

pub returns-clause-raw : goal.returns-clause-raw
returns-clause-raw g c = rw (← c.self.view_is) (words g c)

pub returns-clause-sights : goal.returns-clause-sights
returns-clause-sights g c =
    let s = state_of c.self.inside.screen.serving in
    let over = rw (← c.self.view_is) at c.requires.over in
    λ t. clean_seen _ _ _ _ _ _ _ (λ k. owns_none s c.args.sid over c.self.invariant.live (pixel s.config.width k))
    c.reopen.ensures.painted t
