-- What the tests of both formats share. Assumes nothing.
use Rattle.std.proofs.Common.{◌≡◌, ℕ, ◌<◌, Bool, ◌&&◌, ltb, sym, ap, lt→ltb}
use lib.Ieee.Bits.{is_true}

-- a test is itself behind a guard that passes
pub guarded : (w end : ℕ) (q : Bool) → w < end → q ≡ ltb w end && q
guarded w end q h = sym (ap (λ (b : Bool). b && q) (is_true (ltb w end) (lt→ltb w end h)))
