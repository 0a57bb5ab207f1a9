-- What holds of an outcome, by what holds of it.
use Rattle.std.proofs.Common.{Option, None, Some, Result, Ok, Err}
use Rattle.std.specs.Prelude.{IfOk, IfSome, OnOk}

pub on-ok : {A E : Type 0} (P Q : Type 0) (r : Result A E) → OnOk r P → (P → Q) → OnOk r Q
on-ok P Q (Ok a) p f = f p
on-ok P Q (Err e) p f = tt

pub both-ok : {A E : Type 0} (P Q R : A → Type 0) (r : Result A E) → IfOk r P → IfOk r Q → ((a : A) → P a → Q a → R a) → IfOk r R
both-ok P Q R (Ok a) p q f = f a p q
both-ok P Q R (Err e) p q f = tt

pub three-ok : {A E : Type 0} (P Q R S : A → Type 0) (r : Result A E) → IfOk r P → IfOk r Q → IfOk r R
    → ((a : A) → P a → Q a → R a → S a) → IfOk r S
three-ok P Q R S (Ok a) p q r f = f a p q r
three-ok P Q R S (Err e) p q r f = tt

-- where there may be none
pub both-some : {A E : Type 0} (P Q R : A → Type 0) (r : Result (Option A) E) → IfOk r (λ o. IfSome o P) → IfOk r (λ o. IfSome o Q)
    → ((a : A) → P a → Q a → R a) → IfOk r (λ o. IfSome o R)
both-some P Q R (Ok None) p q f = tt
both-some P Q R (Ok (Some a)) p q f = f a p q
both-some P Q R (Err e) p q f = tt
