-- What holds where a call succeeds.
use Rattle.std.proofs.Common.{Result, Ok, Err, OnOk, IfOk}

pub on_always : {T E : Type 0} {P : Type 0} (r : Result T E) → P → OnOk r P
on_always (Ok x) p = p
on_always (Err e) p = tt

pub on_more : {T E : Type 0} {P Q : Type 0} (r : Result T E) → (P → Q) → OnOk r P → OnOk r Q
on_more (Ok x) f p = f p
on_more (Err e) f p = tt

pub if_more : {T E : Type 0} {P Q : T → Type 0} (r : Result T E) → ((x : T) → P x → Q x) → IfOk r P → IfOk r Q
if_more (Ok x) f p = f x p
if_more (Err e) f p = tt
