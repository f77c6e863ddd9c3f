-- What holds of a call's result.
use Rattle.std.proofs.Common.{◌≡◌, Bool, false, OnErr, OnOk, Result, Ok, Err}
use Rattle.std.specs.Result.{is_err}

pub on_err : {T E : Type 0} (P : Type 0) (r : Result T E) → P → OnErr r P
on_err P (Ok x) p = tt
on_err P (Err e) p = p

pub on_ok : {T E : Type 0} (P Q : Type 0) (r : Result T E) → (P → Q) → OnOk r P → OnOk r Q
on_ok P Q (Ok x) f p = f p
on_ok P Q (Err e) f p = tt

pub ok_of : {T E : Type 0} (P : Type 0) (r : Result T E) (b : Bool) → b ≡ is_err r → b ≡ false → OnOk r P → P
ok_of P (Ok x) b same bad p = p
ok_of P (Err e) b same bad p = absurd (cc)

pub on_err_both : {T E : Type 0} (P Q R : Type 0) (r : Result T E) → (P → Q → R) → OnErr r P → OnErr r Q → OnErr r R
on_err_both P Q R (Ok x) f p q = tt
on_err_both P Q R (Err e) f p q = f p q

pub on_ok_both : {T E : Type 0} (P Q R : Type 0) (r : Result T E) → (P → Q → R) → OnOk r P → OnOk r Q → OnOk r R
on_ok_both P Q R (Ok x) f p q = f p q
on_ok_both P Q R (Err e) f p q = tt
