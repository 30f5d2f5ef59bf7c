-- Lines of a clip script are read exactly.
use Rattle.nit_clip.proofs.Basics.{ClipCall, ClipLine, FitsClipCall, FitsClipLine, HasOneReading}
use Rattle.nit_clip.proofs.Basics.{IsReader, Takes, at_made, clip_call_spelling, clip_line_spelling}
use Rattle.nit_clip.proofs.Basics.{codes, ended_again, ended_takes, first_takes, kind, made_takes}
use Rattle.nit_clip.proofs.Basics.{nothing, one_reading, text_fields}
use Rattle.std.proofs.Common.{List, Some, refl, ℕ, ◌++◌, ◌∷◌, ◌≡◌}
use Rattle.nit_clip.specs.ClipReaders.{clip_call_at, clip_front_at, clip_line_at, clip_phase_at}
use Rattle.nit_clip.specs.ClipReaders.{copy_at, paste_at}
use Rattle.nit_clip.specs.declared.call.ClipCall.TheVariants as call
use Rattle.nit_clip.specs.declared.line.ClipLine.TheVariants as line

call_takes : Takes clip_call_at clip_call_spelling FitsClipCall
unfolding clip_call_at copy_at paste_at
call_takes =
    first_takes copy_at paste_at clip_call_spelling FitsClipCall
    (kind text_fields clip_call_spelling FitsClipCall (codes "copy") call.Copy (λ t h. h) (λ t h. h) (λ t. refl)).takes
    (kind nothing clip_call_spelling FitsClipCall (codes "paste") (λ _. call.Paste) (λ p h. tt) (λ p h. tt)
    (λ p. refl)).takes

call_again : (c : ClipCall) (rest : List ℕ) → FitsClipCall c → clip_call_at (clip_call_spelling c ++ 10 ∷ rest)
    ≡ Some (c, 10 ∷ rest)
unfolding clip_call_at copy_at paste_at
call_again (call.Copy t) rest fits = rw (text_fields.again t (10 ∷ rest) fits refl)
call_again call.Paste rest fits = refl

front_takes : Takes clip_front_at clip_line_spelling FitsClipLine
unfolding clip_front_at clip_phase_at
front_takes =
    first_takes (at_made line.Call clip_call_at) clip_phase_at clip_line_spelling FitsClipLine
    (made_takes clip_call_at clip_call_spelling FitsClipCall line.Call _ _ call_takes (λ c. refl) (λ c h. h))
    (kind nothing clip_line_spelling FitsClipLine (codes "phase") (λ _. line.Phase) (λ p h. tt) (λ p h. tt)
    (λ p. refl)).takes

front_again : (l : ClipLine) (rest : List ℕ) → FitsClipLine l → clip_front_at (clip_line_spelling l ++ 10 ∷ rest)
    ≡ Some (l, 10 ∷ rest)
unfolding clip_front_at clip_call_at copy_at paste_at clip_phase_at
front_again (line.Call c) rest fits = rw (call_again c rest fits)
front_again line.Phase rest fits = refl

-- a line of a clip script is read exactly
pub clip_reader : IsReader FitsClipLine clip_line_spelling clip_line_at
unfolding clip_line_at
clip_reader = record {
  takes = ended_takes clip_front_at clip_line_spelling FitsClipLine front_takes;
  again = λ l rest fits. ended_again clip_front_at clip_line_spelling l rest (front_again l rest fits);
}

-- bytes begin with one line of a clip script at most
pub clip_reading : HasOneReading FitsClipLine clip_line_spelling
clip_reading = one_reading clip_reader
