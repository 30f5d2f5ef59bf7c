-- The film of a region, which a command puts behind the files of its run.
use Rattle.std.specs.Prelude.{ℕ, List, [], ◌∷◌, ◌++◌, map, codes}
use Rattle.nit_run.specs.Below.{Configuration, Entry, File, Region, crop_bytes, stream}
use Rattle.nit_run.specs.Region.{rectangle_of}
use Rattle.nit_run.specs.Setup.{Setup}
use Rattle.nit_run.specs.Outputs.{AreOutputs, final_picture}

-- the pictures among the files of a run: those of its shots in order, and the last one
abbrev pub pictures_in : {s : Setup} {journal : List Entry} {files : List File}
    → AreOutputs s journal files → List (List ℕ)
pictures_in {s = s} {journal = journal} are =
    map (λ f. f.1) are.0 ++ final_picture s journal ∷ []

abbrev pub film_name : List ℕ
film_name = codes "capture.ncap"

-- the film of pictures of a screen, each cut to the region
abbrev pub film_of : Region → Configuration → List (List ℕ) → List ℕ
film_of region config pictures =
    let cut = crop_bytes config.width config.height (rectangle_of region) in
    stream region.w region.h (map cut pictures)
