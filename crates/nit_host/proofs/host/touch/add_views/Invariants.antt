use Rattle.std.proofs.Common.{Some, slice_get, true, ℕ, ◌<◌, ◌≡◌}
use Rattle.nit_host.proofs.Lemmas.{All, IsAreaOf, View, has_any, is_touched, point}
use Rattle.nit_host.proofs.host.touch.add_views.Given as goal

abbrev pub invariant-views : goal.invariant-views
invariant-views l = record {
  screen : All (IsAreaOf l.desktop.state.config.width l.desktop.state.config.height) l.fn.parts
      → All (IsAreaOf l.desktop.state.config.width l.desktop.state.config.height) l.parts;
  own : (x y : ℕ) → has_any l.fn.parts x y ≡ true → has_any l.parts x y ≡ true;
  views : (i x y : ℕ) (v : View) → i < l.i → slice_get l.desktop.state.stack i ≡ Some v
      → x < l.desktop.state.config.width → y < l.desktop.state.config.height
      → is_touched l.touch l.seat v (point x y) ≡ true → has_any l.parts x y ≡ true;
}
