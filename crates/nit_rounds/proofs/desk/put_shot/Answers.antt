use Rattle.std.proofs.Common.{arith, rules, ℕ, ◌++◌, ◌<◌, ◌^◌}
use Rattle.nit_rounds.proofs.Lemmas.{IsAscii-decimal, IsUtf8, IsUtf8-append, IsUtf8-from_ascii}
use Rattle.nit_rounds.proofs.Lemmas.{codes, decimal, shot_name, subst, sym}
use Rattle.nit_rounds.proofs.desk.put_shot.Goals as goal

name_is_text : (n : ℕ) → n < 2 ^ 32 → IsUtf8 (shot_name n)
name_is_text n small =
    IsUtf8-append (codes "shot-") (decimal n ++ codes ".ppm") (IsUtf8-from_ascii (codes "shot-") (search rules))
    (IsUtf8-append (decimal n) (codes ".ppm") (IsUtf8-from_ascii (decimal n) (IsAscii-decimal n (omega arith)))
    (IsUtf8-from_ascii (codes ".ppm") (search rules)))

pub name_of-requires : goal.name_of-requires
name_of-requires g c =
    subst IsUtf8 (sym c.shot_name_into-end.ensures.name) (name_is_text c.args.number c.ranges.number.fits)
