-- The sink tells no bytes, so there is nothing to show of them.
use Rattle.std.proofs.Common.{ℕ, Result, Ok, Err, IfOk, OnErr, refl, rules}
use Rattle.prem_io.proofs.host.OutSinkSink.TheImpl.Goals as goal

on_any_ok : {E P : Type 0} (r : Result ℕ E) → P → IfOk r (λ _. P)
on_any_ok (Ok n) p = p
on_any_ok (Err e) p = tt

on_any_err : {E P : Type 0} (r : Result ℕ E) → P → OnErr r P
on_any_err (Ok n) p = tt
on_any_err (Err e) p = p

pub write-tells : goal.write-tells
write-tells g c = record {
  most = search rules;
  least = search rules;
  taken = on_any_ok c.result refl;
  refused = on_any_err c.result refl;
  failed = search rules;
  count = search rules;
}
