-- A film that is made of the pictures that a store is given.
use Rattle.std.specs.Prelude.{◌≡◌, ℕ, ◌*◌, ◌<◌, ◌≤◌, Bool, true, false, List, [], ◌∷◌, ◌++◌, length}
use Rattle.std.specs.Prelude.{map, Option, Some, if◌then◌else◌}
use Rattle.nit_perform.specs.Below.{CaptureModel, File, bytes_of, cropped_bytes, film_header}
use Rattle.nit_perform.specs.Below.{final_name, most_lines, range_with_len, records, shot_name}
use Rattle.nit_perform.specs.declared.film_store.Reel.{Reel}

-- these bytes can be the next picture of a film: it is whole and not ended, and they are as many
-- as a picture has
pub record CanFilm (r : Reel) (bytes : List ℕ) : Type 0 where
  pub is_whole : r.whole ≡ true
  pub going : r.ended ≡ false
  pub few : r.count < most_lines
  pub long : 3 * (r.film.capture.width * r.film.capture.height) ≤ length bytes

-- the names of the pictures of so many shots, and of the last picture, if that was taken
abbrev pub picture_names : ℕ → Bool → List (List ℕ)
picture_names count ended =
    map shot_name (range_with_len 1 count) ++ (if ended then final_name ∷ [] else [])

-- the bytes under these names
abbrev pub bytes_under : List File → List (List ℕ) → List (List ℕ)
bytes_under files names = map (λ name. bytes_of name files) names

-- the last of some pictures, or the one before them
abbrev pub last_of : List ℕ → List (List ℕ) → List ℕ
last_of before [] = before
last_of before (now ∷ more) = last_of now more

-- A capture has taken these pictures since it was begun, and the bytes are the film of them without
-- its end.
pub record HasTaken (begun now : CaptureModel) (pictures : List (List ℕ))
    (bytes : List ℕ) : Type 0 where
  pub last : now.before ≡ last_of begun.before (map (cropped_bytes begun) pictures)
  pub bytes_are : bytes ≡ film_header begun.rect.w begun.rect.h
      ++ records begun.rect.w begun.rect.h begun.before (map (cropped_bytes begun) pictures)

-- While a film is whole, it is that of the files under the names of its pictures, where files are
-- told.
abbrev pub IsFilmOf : Bool → CaptureModel → CaptureModel → List (List ℕ) → Option (List File)
    → List ℕ → Type 0
IsFilmOf whole begun now names told bytes = whole ≡ true → (files : List File) → told ≡ Some files
    → HasTaken begun now (bytes_under files names) bytes
