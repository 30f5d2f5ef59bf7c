use Rattle.std.proofs.Common.{false, slice_index_or, true, ℕ, ◌<◌, ◌≡◌, ◌≤◌}
use Rattle.nit_server.proofs.Lemmas.{client_in, most_sessions}
use Rattle.nit_server.proofs.server.input.set_clicks.Given as goal

abbrev pub invariant-loop-sid : goal.invariant-loop-sid
invariant-loop-sid l = record {
  rest : l.focus ≡ record l.initial.focus { clicks = l.focus.clicks };
  told : (t : ℕ) → t < l.sid → slice_index_or l.focus.clicks t false ≡ (client_in l.clients t).clicks;
  later : (t : ℕ) → l.sid ≤ t → t < most_sessions → slice_index_or l.focus.clicks t false ≡ true;
}
