-- Worked rows of a generated run: what these lines are was worked out apart from the definitions.
use Rattle.std.proofs.Common.{[], drop, refl, ◌++◌, ◌∷◌, ◌≡◌}
use Rattle.nit_report.proofs.Basics.{buffer_lines, busy, click, codes, draws_in_turn, first_phase}
use Rattle.nit_report.proofs.Basics.{flat_map, input_spelling, line_spelling, seed, spelled}
use Rattle.nit_report.proofs.Basics.{user_phase_end, xray_shot}
use Rattle.nit_report.specs.Draw.{following, for_each}
use Rattle.nit_report.specs.Generator.{config_text, from_outside, placed, some_colour, some_part}
use Rattle.nit_script.specs.Spelling.{hex_digits}
use Rattle.std.specs.Fmt.{digits}

-- run 7, client 3: its buffer and the place of its first view
begun : flat_map (spelled line_spelling)
    (draws_in_turn (buffer_lines ++ for_each 1 1 (λ v. placed v ∷ [])) (seed 7 3)).0
    ≡ codes "buffer 128 96\n"
    ++ codes "fill 0 0 128 96 FBD8A1\n"
    ++ codes "place 1 111 104 37 25\n"
unfolding following for_each some_colour from_outside placed digits hex_digits
begun = refl

-- the end of its first phase, and a line of each kind
kinds : flat_map (spelled line_spelling)
    (drop 49 (draws_in_turn (first_phase ++ for_each 0 8 (λ j. busy j ∷ [])) (seed 7 3)).0)
    ≡ codes "title 16 =w16\n"
    ++ codes "phase\n"
    ++ codes "fill 76 68 41 29 F2C817\n"
    ++ codes "check 32 76 20 8 ECDD01 7C7237\n"
    ++ codes "place 3 8 49 29 67\n"
    ++ codes "front 14\n"
    ++ codes "back 8\n"
    ++ codes "refresh 87 48 54 23\n"
    ++ codes "take\n"
    ++ codes "offset 12 -18 9\n"
unfolding following for_each some_colour some_part from_outside placed digits hex_digits
kinds = refl

-- a great number: the seed is cut off to 32 bits
great : flat_map (spelled line_spelling) (draws_in_turn buffer_lines (seed 999999999 7)).0
    ≡ codes "buffer 128 96\n"
    ++ codes "fill 0 0 128 96 56E113\n"
unfolding following some_colour digits hex_digits
great = refl

-- run 7, the user: two clicks, and the shot
clicked : flat_map (spelled input_spelling) (draws_in_turn (user_phase_end ++ for_each 0 2 (λ i. click)) (seed 7 8)).0
    ≡ codes "phase\n"
    ++ codes "motion 314 49\n"
    ++ codes "press 272\n"
    ++ codes "release 272\n"
    ++ codes "wheel 1\n"
    ++ codes "motion 270 200\n"
    ++ codes "press 272\n"
    ++ codes "release 272\n"
    ++ codes "wheel 1\n"
unfolding following for_each digits
clicked = refl

shot : flat_map (spelled input_spelling) (draws_in_turn xray_shot 0).0 ≡ codes "press 70\nshot\npress 70\n"
unfolding digits
shot = refl

-- the configuration
whole : config_text
    ≡ codes "[screen]\nwidth = 320\nheight = 240\n\n[input]\nscript = \"gen.in\"\n"
    ++ codes "\n[[client]]\nlabel = \"g0\"\ndonation = 262144\nscript = \"g0.nit\"\n"
    ++ codes "\n[[client]]\nlabel = \"g1\"\ndonation = 262144\nscript = \"g1.nit\"\n"
    ++ codes "\n[[client]]\nlabel = \"g2\"\ndonation = 262144\nscript = \"g2.nit\"\n"
    ++ codes "\n[[client]]\nlabel = \"g3\"\ndonation = 262144\nscript = \"g3.nit\"\n"
    ++ codes "\n[[client]]\nlabel = \"g4\"\ndonation = 262144\nscript = \"g4.nit\"\n"
    ++ codes "\n[[client]]\nlabel = \"g5\"\ndonation = 262144\nscript = \"g5.nit\"\n"
    ++ codes "\n[[client]]\nlabel = \"g6\"\ndonation = 262144\nscript = \"g6.nit\"\n"
    ++ codes "\n[[client]]\nlabel = \"g7\"\ndonation = 262144\nscript = \"g7.nit\"\n"
unfolding config_text digits
whole = refl
