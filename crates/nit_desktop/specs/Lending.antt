-- What a desktop is once its frame is no longer read.
use Rattle.std.specs.Prelude.{◌≡◌}
use Rattle.std.specs.Borrow.{Fml, MutBor}
use Rattle.std.specs.Io.BufRead.{Rests}
use Rattle.nit_desktop.specs.Desktop.{DesktopModel}
use Rattle.nit_desktop.specs.contracts.desktop.Desktop.{the_row}

-- it is as it was before
abbrev pub StaysSame : MutBor DesktopModel → Fml
StaysSame d = Rests the_row d (λ last. last ≡ d.now)
