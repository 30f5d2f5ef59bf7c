-- Pictures in the P6 form of Netpbm's PPM.
use Rattle.std.specs.Prelude.{ℕ, ◌+◌, ◌*◌, List, ◌++◌, length, codes}
use Rattle.nit_report.specs.Below.{channels, decimal, flat_map}

-- the width and the height in decimal, and the greatest value of a channel
abbrev pub picture_header : ℕ → ℕ → List ℕ
picture_header w h = codes "P6\n" ++ decimal w ++ codes " " ++ decimal h ++ codes "\n255\n"

-- the picture of a frame, whose words stand row by row from the top
abbrev pub picture : ℕ → ℕ → List ℕ → List ℕ
picture w h frame = picture_header w h ++ flat_map channels frame

-- how many bytes a picture has
abbrev pub picture_length : ℕ → ℕ → ℕ
picture_length w h = length (picture_header w h) + 3 * (w * h)
