-- What a pattern is cut into: a significand from √½ to √2, and an exponent. Over the table of a format. Assumes nothing.
use Rattle.std.proofs.Common.{ℕ, suc, ◌+◌, ◌-◌, ◌*◌, ◌/◌, ◌%◌, ◌<◌, ◌≤◌, true, false, T, leb, [], ◌∷◌, pos, negsuc, ◌-ℤ◌, ◌<ℤ◌, mod-lt, zero-lt-suc, suc-mul, mul_comm, div-lt_iff_lt-mul, add-mul, mul-pos, arith, leb→le, pow_pos}
use lib.Signed.{lt_z}
use Rattle.std.proofs.lemmas.Int.{ints}
use lib.Ieee.{Float, fin, Format, prec, emax, hid, ones, top, of_bits, sub}
use Rattle.numeric.proofs.Intervals.{mk, In}
use Rattle.numeric.proofs.Programs.{Code, at, lit, minus, span, fits_in, bounded}
use Rattle.numeric.proofs.Patterns.{of_bits_mono}
use Rattle.float.specs.Constants.{one}
use Rattle.logarithm.specs.Kernel.{Logarithm, moved_of, exponent_of, significand_of}
use Rattle.logarithm_laws.proofs.Whole.{Between}

-- f, the significand less 1, lies from -5/16 to 7/16
abbrev pub f_low : Float
f_low = fin true 5 (negsuc 3)

abbrev pub f_high : Float
f_high = fin false 7 (negsuc 3)

abbrev less_one : Format → Code
less_one f = minus (at 0) (lit (one f))

module _ (t : Logarithm) where
  abbrev F : Format
  F = t.format

  -- the last pattern of a significand
  abbrev pub last : ℕ
  last = t.bottom + hid F - 1

  -- the table's constants are of the right size
  pub record Cuts : Type 0 where
    pub room : T (leb (t.bottom + hid F) (ones F * hid F))
    pub step : T (leb t.below (hid F))
    pub fraction : T (fits_in (span F (less_one F) (mk (of_bits F t.bottom) (of_bits F last) ∷ [])) f_low f_high)

  module _ (ok : Cuts) where
    room_is : t.bottom + hid F ≤ ones F * hid F
    room_is = leb→le (t.bottom + hid F) (ones F * hid F) ok.room

    pub significand_in : (b : ℕ) → In (significand_of t b) (mk (of_bits F t.bottom) (of_bits F last))
    significand_in b =
        let r = moved_of t b % hid F in
        let l : r < hid F = mod-lt (moved_of t b) (pow_pos (prec F - 1)) in
        (of_bits_mono F t.bottom (r + t.bottom) (above r t.bottom) (under r t.bottom (hid F) (ones F * hid F) l room_is), of_bits_mono F (r + t.bottom) last (most r t.bottom (hid F) l) (inside r t.bottom (hid F) (ones F * hid F) l room_is))
      where
        above : (r b : ℕ) → b ≤ r + b
        above r b = omega arith

        under : (r b h o : ℕ) → r < h → b + h ≤ o → r + b < o
        under r b h o l k = omega arith

        most : (r b h : ℕ) → r < h → r + b ≤ b + h - 1
        most r b h l = omega arith

        inside : (r b h o : ℕ) → r < h → b + h ≤ o → b + h - 1 < o
        inside r b h o l k = omega arith

    pub fraction_in : (b : ℕ) → In (sub F (significand_of t b) (one F)) (mk f_low f_high)
    fraction_in b =
        let i = significand_in b in
        bounded F (less_one F) (of_bits F t.bottom) (of_bits F last) f_low f_high (significand_of t b)
        ok.fraction i.0 i.1

    -- the exponent's field of a moved pattern
    field_under : (b : ℕ) → moved_of t b / hid F < 3 + 2 * emax F
    field_under b =
        (div-lt_iff_lt-mul (pow_pos (prec F - 1))).1
        (under (b % top F) t.below (hid F) (emax F) (mod-lt b top_pos) (leb→le t.below (hid F) ok.step))
      where
        top_pos : 0 < top F
        top_pos = mul-pos (pow_pos (prec F - 1)) (zero-lt-suc (ones F))

        under : (r b h e : ℕ) → r < h * suc (2 * e + 1) → b ≤ h → r + b < (3 + 2 * e) * h
        under r b h e l k =
            let p = mul_comm h (suc (2 * e + 1)) in
            let q = suc-mul (2 * e + 1) h in
            let s = add-mul (2 * e) 1 h in
            let w = add-mul 3 (2 * e) h in
            omega arith

    pub exponent_in : (b : ℕ) → Between (emax F) (2 + emax F) (exponent_of t b)
    exponent_in b = go (moved_of t b / hid F) (emax F) (field_under b)
      where
        go : (q e : ℕ) → q < 3 + 2 * e → Between e (2 + e) (pos q -ℤ pos e)
        go q e h = (omega (arith, ints), omega (arith, ints))

  -- an exponent below e bounds the pattern
  pub pattern_under : (b : ℕ) (e : ℕ) → T (lt_z (exponent_of t b) (pos e)) → b % top F < (emax F + e) * hid F
  pattern_under b e h =
      let l : moved_of t b / hid F < emax F + e = go (moved_of t b / hid F) (emax F) (record { lt = h }) in
      let k : moved_of t b < (emax F + e) * hid F = (div-lt_iff_lt-mul (pow_pos (prec F - 1))).0 l in
      drop (b % top F) t.below ((emax F + e) * hid F) k
    where
      go : (q m : ℕ) → (pos q -ℤ pos m) <ℤ (pos e) → q < m + e
      go q m h = omega (arith, ints)

      drop : (r b c : ℕ) → r + b < c → r < c
      drop r b c h = omega arith
