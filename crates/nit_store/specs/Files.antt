-- Files and names as lists.
use Rattle.std.specs.Prelude.{ℕ, Bool, true, ◌&&◌, IsTrue, List, [], ◌∷◌, map, is_none, Vec, String}
use Rattle.std.specs.Prelude.{string_bytes, if◌then◌else◌}
use Rattle.nit_store.specs.Below.{Global, bytes_eq}
use Rattle.nit_store.specs.Store.{File, file_at}

-- files as lists of bytes
abbrev pub files_of : List (String Global × Vec ℕ Global) → List File
files_of files = map (λ f. (string_bytes f.0, f.1.items)) files

-- names as lists of bytes
abbrev pub names_of : List (String Global) → List (List ℕ)
names_of names = map (λ name. string_bytes name) names

-- whether no file has the name of one that stands after it
abbrev pub have_different_names : List File → Bool
have_different_names [] = true
have_different_names (f ∷ fs) = is_none (file_at f.0 fs) && have_different_names fs

-- no two files have one name
abbrev pub HasDifferentNames : List File → Type 0
HasDifferentNames files = IsTrue (have_different_names files)

-- the files with these bytes under this name: in the place of the old bytes where the name is
-- there, and as a last file where it is not
abbrev pub with_file : List ℕ → List ℕ → List File → List File
with_file name bytes [] = (name, bytes) ∷ []
with_file name bytes (f ∷ fs) =
    if bytes_eq f.0 name then (name, bytes) ∷ fs else f ∷ with_file name bytes fs
