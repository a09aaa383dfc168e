-- Where log's values lie: band by band. Assumes nothing.
use Rattle.std.proofs.Common.{ℕ, zero, suc, true, false, cond, T, ℤ, pos, negsuc, ◌+ℤ◌, arith}
use Rattle.std.proofs.lemmas.Int.{ints}
use lib.Ieee.{Float, nan, inf, fin, binary64, of_bits, to_bits, round, neg, add, sub, mul, div, le, lt, eq, is_nan}
use Rattle.numeric.proofs.Intervals.{mk, In}
use Rattle.numeric.proofs.Programs.{span, fits_in}
use Rattle.numeric.proofs.Order.{zero_f, number_above, lt_not_le}
use Rattle.numeric.proofs.Tests.{by_cases}
use Rattle.float.specs.Band.{below_bits}
use Rattle.float.specs.Constants.{one, plus_zero}
use Rattle.logarithm.specs.Kernel.{double, exponent_of, significand_of}
use Rattle.logarithm.specs.Log.{cut_of, raised, bands_of, log_of}
use Rattle.logarithm_laws.specs.Laws.{LogNumber, LogBounded}
use Rattle.logarithm_laws.proofs.Whole.{Between, zero_under, above_negative}
use Rattle.logarithm_laws.proofs.Cutting.{Cuts, fraction_in, exponent_in}
use Rattle.logarithm_laws.proofs.Kernel.{Ks, plain_code, plain_in}

pub double_cuts : Cuts double
unfolding of_bits add sub neg le
double_cuts = record { room = tt; step = tt; fraction = tt }

abbrev pub least : Float
least = fin true 748 (pos 0)

abbrev pub most : Float
most = fin false 748 (pos 0)

abbrev Bounded : Float → Type 0
Bounded z = In z (mk least most)

sum_ok : T (fits_in (span binary64 (plain_code double) (Ks double 1077 1025 least most)) least most)
unfolding of_bits round add sub mul div neg le
sum_ok = tt

cut_in : (j : ℤ) (b : ℕ) → Between 54 0 j → Bounded (cut_of j b)
cut_in j b h =
    plain_in double 1077 1025 least most sum_ok (sub binary64 (significand_of double b) (one binary64)) (j +ℤ exponent_of double b) (fraction_in double double_cuts b)
    (both j (exponent_of double b) h (exponent_in double double_cuts b))
  where
    both : (j k : ℤ) → Between 54 0 j → Between 1023 1025 k → Between 1077 1025 (j +ℤ k)
    both j k g h = (omega (arith, ints), omega (arith, ints))

zero_in : Bounded (plus_zero binary64)
unfolding of_bits le
zero_in = (tt, tt)

-- of every x, whatever it is
bands_in : (x : Float) → Bounded (bands_of x)
bands_in x =
    by_cases Bounded (eq x (one binary64)) (plus_zero binary64) (cond (below_bits binary64 x 0x0010000000000000) (cut_of (negsuc 53) (to_bits binary64 (raised x))) (cut_of (pos 0) (to_bits binary64 x)))
    (λ _. zero_in)
    (λ _. by_cases Bounded (below_bits binary64 x 0x0010000000000000) (cut_of (negsuc 53) (to_bits binary64 (raised x))) (cut_of (pos 0) (to_bits binary64 x))
    (λ _. cut_in (negsuc 53) (to_bits binary64 (raised x)) (omega (arith, ints), omega (arith, ints)))
    (λ _. cut_in (pos 0) (to_bits binary64 x) (omega (arith, ints), omega (arith, ints))))

pub log_bounded : LogBounded
log_bounded nan h k = absurd h
log_bounded (inf s) h k = absurd h
log_bounded (fin s zero e) h k = absurd (lt_not_le zero_f (fin s 0 e) (unfold of_bits in k) (zero_under s e))
log_bounded (fin true (suc m) e) h k = absurd (unfold lt of_bits in k)
log_bounded (fin false (suc m) e) h k = unfold log_of in bands_in (fin false (suc m) e)

pub log_number : LogNumber
log_number nan h = absurd (unfold le of_bits in h)
log_number (inf true) h = absurd (unfold le of_bits in h)
log_number (inf false) h = unfold log_of is_nan in tt
log_number (fin s zero e) h = unfold log_of is_nan of_bits in tt
log_number (fin true (suc m) e) h = absurd (above_negative m e (unfold of_bits in h))
log_number (fin false (suc m) e) h = unfold log_of in number_above least (bands_of (fin false (suc m) e)) (bands_in (fin false (suc m) e)).0
