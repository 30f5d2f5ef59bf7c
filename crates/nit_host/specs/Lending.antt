-- What a host is once its frame is no longer read.
use Rattle.std.specs.Prelude.{◌≡◌}
use Rattle.std.specs.Borrow.{Fml, MutBor}
use Rattle.std.specs.Io.BufRead.{Rests}
use Rattle.nit_host.specs.Host.{HostModel}
use Rattle.nit_host.specs.contracts.host.Host.{the_row}

-- it is as it was before
abbrev pub HostStays : MutBor HostModel → Fml
HostStays h = Rests the_row h (λ last. last ≡ h.now)
