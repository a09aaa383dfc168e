-- What an answer that is told by its number says of the answer, and what a full conversion gives back. Assumes nothing.
use Rattle.std.specs.Prelude.{◌≡◌, ℕ, Bool, true, false, cond, Ok, Err, Result, refl}
use Rattle.std.proofs.Common.{sym, ap, ◌∙◌, arith}
use Rattle.refusals.specs.Refusals.{Told}
use Rattle.kinds.specs.Kinds.{Meaning}
use Rattle.conversion.specs.declared.refusal.Refusal.{Refusal}
use Rattle.conversion.specs.Refusals.{answered, not_a_number, outside}
use Rattle.conversion.specs.Conversions.{Rule, Gives, in_range, on_answer, back_answer, back_number_answer, Sound, AllNumbers}

module _ {K : Type 0} where
  apart : (y : K) (t : Told) → ◌≡◌ {A = Result K Told} (Ok y) (Err t) → ⊥
  apart y t e = let z : ◌≡◌ {A = ℕ} 0 1 = cc in omega arith

  same_ok : (x y : K) → ◌≡◌ {A = Result K Told} (Ok x) (Ok y) → x ≡ y
  same_ok x y e = cc

  -- an answer passes the test where the value that is told passes it
  pub gives : (test : K → Bool) (b : Bool) (v : K) (t : Told) (r : Result K Refusal) → answered r ≡ cond b (Ok v) (Err t) → (b ≡ true → test v ≡ true) → Gives test r
  gives test true v t (Ok y) e h = ap test (same_ok y v e) ∙ h refl
  gives test false v t (Ok y) e h = absurd (apart y t e)
  gives test b v t (Err d) e h = tt

  -- what an on gave that tested for a number, and a back that tested for its range
  module _ (k : Meaning K) (c : Rule K) (x y : K) where
    pub on_answer_lem : k.number x ≡ true → y ≡ c.on x → ◌≡◌ {A = Result K Told} (Ok y) (on_answer k c x)
    on_answer_lem n e = ap Ok e ∙ sym (ap (λ (b : Bool). cond b (Ok (c.on x)) (Err not_a_number)) n)

    pub on_within : Sound k c → k.number x ≡ true → y ≡ c.on x → in_range k c y ≡ true
    on_within s n e = ap (in_range k c) e ∙ s.on_in x n

    pub back_answer_lem : in_range k c x ≡ true → y ≡ c.back x → ◌≡◌ {A = Result K Told} (Ok y) (back_answer k c x)
    back_answer_lem r e = ap Ok e ∙ sym (ap (λ (b : Bool). cond b (Ok (c.back x)) (Err outside)) r)

    pub back_within : Sound k c → in_range k c x ≡ true → y ≡ c.back x → k.number y ≡ true
    back_within s r e = ap k.number e ∙ s.back_number x r

  module _ (k : Meaning K) where
    -- the back of a full conversion takes every number
    pub full_back : (c : Rule K) → AllNumbers k c → (x : K) (r : Result K Refusal) → answered r ≡ back_answer k c x → answered r ≡ back_number_answer k c x
    full_back c all x r e = e ∙ ap (λ (b : Bool). cond b (Ok (c.back x)) (Err outside)) (all x)

    -- the back of a full conversion lies in its back range, as every number does
    pub full_gives : (c : Rule K) → Sound k c → AllNumbers k c → (x : K) (r : Result K Refusal) → answered r ≡ back_answer k c x → Gives (in_range k c) r
    full_gives c s all x r e = gives (in_range k c) (in_range k c x) (c.back x) outside r e (λ i. all (c.back x) ∙ s.back_number x i)
