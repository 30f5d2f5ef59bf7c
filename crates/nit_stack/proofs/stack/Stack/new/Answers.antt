use Rattle.std.proofs.Common.{arith, length, replicate, rules, ℕ, ◌≡◌, ◌≤◌}
use Rattle.nit_stack.proofs.Lemmas.{All-nil, All-replicate, IsBufferSize, IsSlotView}
use Rattle.nit_stack.proofs.Lemmas.{length-replicate, no_size, opened_as}
use Rattle.nit_stack.proofs.stack.Stack.new.Goals as goal

pub invariant_of-result : goal.invariant_of-result
invariant_of-result c =
    let sizes = c.in_ok-sizes.ensures.items_if_clones_equal (λ y h. search rules) in
    let layers = c.in_ok-layers.ensures.items_if_clones_equal (λ y h. search rules) in
    let room : length c.in_ok-slots.slots.items ≡ c.args.most =
    omega (arith, c.in_ok-slots.ensures.len, c.in_ok-slots.slots.ok.0) in
    let n = length-replicate c.args.sessions no_size in
    let m = length-replicate {A = ℕ} c.args.sessions 0 in
    record {
      standing = rw (opened_as _ _ _ _ _ _ c.args.sessions c.args.most c.in_ok-order.ensures.items room sizes layers)
          (record {
            slots = tt;
            names = tt;
            layered = tt;
            seats = All-nil (IsSlotView c.args.most (length (replicate c.args.sessions no_size)));
            sizes = All-replicate IsBufferSize c.args.sessions no_size (omega arith, omega arith);
            layers = All-replicate (λ (l : ℕ). l ≤ 7) c.args.sessions 0 (omega arith);
            sessions = (omega (arith, n), omega (arith, n), cc);
            screen = c.requires.screen;
            bar = (omega arith, c.requires.screen.2);
            room = c.requires.most;
          });
      space = omega (arith, room, c.in_ok-order.ensures.capacity);
    }

pub returns : goal.returns
returns c =
    let sizes = c.in_ok-sizes.ensures.items_if_clones_equal (λ y h. search rules) in
    let layers = c.in_ok-layers.ensures.items_if_clones_equal (λ y h. search rules) in
    let room : length c.in_ok-slots.slots.items ≡ c.args.most =
    omega (arith, c.in_ok-slots.ensures.len, c.in_ok-slots.slots.ok.0) in
    opened_as c.in_ok-order.order.items c.in_ok-slots.slots.items c.in_ok-sizes.sizes.items c.in_ok-layers.layers.items
    c.args.width c.args.height c.args.sessions c.args.most c.in_ok-order.ensures.items room sizes layers
