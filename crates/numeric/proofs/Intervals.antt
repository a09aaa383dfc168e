-- Interval arithmetic whose ends are floats, computed by the operations themselves, and straight-line code run on intervals. Assumes nothing.
use Rattle.std.proofs.Common.{◌≡◌, ℕ, ◌*◌, ◌<◌, Bool, true, false, cond, ◌&&◌, T, refl, ap, ◌∙◌, subst, inl, inr, lt_irrefl, eq-zero-or-pos, mul-pos, zero-mul, arith, ltb→lt}
use lib.Ieee.{Float, nan, inf, fin, Format, neg, add, mul, div, le}
use lib.Ieee.Fits.{up_pos}
use lib.Ieee.Scale.{finite}
use lib.Ieee.Positive.{den, den_pos, positive}
use Rattle.numeric.proofs.Rounding.{P, N, and_l, and_r, and_i, Le_of_le, le_trans_f}
use Rattle.numeric.proofs.Operations.{add_mono, either_sign, mul_mono_r, mul_anti_r, mul_swap, div_mono_l, div_anti_r, div_mono_r}

pub data Itv : Type 0 where
  mk : Float → Float → Itv

abbrev pub In : Float → Itv → Type 0
In x (mk a b) = T (le a x) × T (le x b)

abbrev pub good : Itv → Bool
good (mk a b) = finite a && finite b

abbrev pub bad : Itv
bad = mk nan nan

pub finite_between : (a x b : Float) → T (finite a) → T (finite b) → T (le a x) → T (le x b) → T (finite x)
unfolding le
finite_between nan x b p q h k = absurd p
finite_between (inf s) x b p q h k = absurd p
finite_between (fin s m e) nan b p q h k = absurd h
finite_between (fin s m e) (inf true) b p q h k = absurd h
finite_between (fin s m e) (inf false) nan p q h k = absurd q
finite_between (fin s m e) (inf false) (inf t) p q h k = absurd q
finite_between (fin s m e) (inf false) (fin t n d) p q h k = absurd k
finite_between (fin s m e) (fin u o g) b p q h k = tt

-- ---- the operations
abbrev pub guard : Bool → Itv → Itv
guard true I = I
guard false I = bad

guard_is : (b : Bool) (I : Itv) → T (good (guard b I)) → T b
guard_is true I t = tt
guard_is false I t = t

guard_in : (x : Float) (b : Bool) (I : Itv) → T b → In x I → In x (guard b I)
guard_in x true I t h = h
guard_in x false I t h = absurd t

abbrev pub iadd : Format → Itv → Itv → Itv
iadd f (mk a b) (mk c d) = guard (good (mk a b) && good (mk c d)) (mk (add f a c) (add f b d))

abbrev pub ineg : Itv → Itv
ineg (mk a b) = mk (neg b) (neg a)

pub add_in : (f : Format) (I J : Itv) (x y : Float) → T (good I) → T (good J) → In x I → In y J → In (add f x y) (iadd f I J)
add_in f (mk a b) (mk c d) x y g g' (h, k) (h', k') =
    let A = and_l (finite a) (finite b) g in
    let B = and_r (finite a) (finite b) g in
    let C = and_l (finite c) (finite d) g' in
    let D = and_r (finite c) (finite d) g' in
    let X = finite_between a x b A B h k in
    let Y = finite_between c y d C D h' k' in
    guard_in (add f x y) (good (mk a b) && good (mk c d)) (mk (add f a c) (add f b d)) (and_i (good (mk a b)) (good (mk c d)) g g')
    (add_mono f a x c y A X C Y h h', add_mono f x b y d X B Y D k k')

abbrev pub fmin : Float → Float → Float
fmin x y = cond (le x y) x y

abbrev pub fmax : Float → Float → Float
fmax x y = cond (le x y) y x

abbrev pub within : Float → Float → Float → Bool
within lo x hi = le lo x && le x hi

abbrev pub box : Bool → Float → Float → Float → Float → Itv
box b p q r s =
    let lo = fmin (fmin p q) (fmin r s) in
    let hi = fmax (fmax p q) (fmax r s) in
    guard (b && (within lo p hi && (within lo q hi && (within lo r hi && within lo s hi)))) (mk lo hi)

abbrev pub imul : Format → Itv → Itv → Itv
imul f (mk a b) (mk c d) = box (good (mk a b) && good (mk c d)) (mul f a c) (mul f a d) (mul f b c) (mul f b d)

abbrev pub idiv : Format → Itv → Itv → Itv
idiv f (mk a b) (mk c d) = box (good (mk a b) && (good (mk c d) && positive c)) (div f a c) (div f a d) (div f b c) (div f b d)

-- x times c, between its corners
col_lo : (f : Format) (a x b c L : Float) → T (finite a) → T (finite x) → T (finite b) → T (finite c) → T (le a x) → T (le x b) → T (le L (mul f a c)) → T (le L (mul f b c)) → T (le L (mul f x c))
col_lo f a x b c L A X B C h k u v = elim (either_sign c) [
  | inl z ↦ le_trans_f L (mul f a c) (mul f x c) u (subst (λ (w : Float). T (le w (mul f x c))) (mul_swap f c a C A) (subst (λ (w : Float). T (le (mul f c a) w)) (mul_swap f c x C X) (mul_mono_r f c a x C A X z h)))
  | inr z ↦ le_trans_f L (mul f b c) (mul f x c) v (subst (λ (w : Float). T (le w (mul f x c))) (mul_swap f c b C B) (subst (λ (w : Float). T (le (mul f c b) w)) (mul_swap f c x C X) (mul_anti_r f c x b C X B z k)))
]

col_hi : (f : Format) (a x b c H : Float) → T (finite a) → T (finite x) → T (finite b) → T (finite c) → T (le a x) → T (le x b) → T (le (mul f a c) H) → T (le (mul f b c) H) → T (le (mul f x c) H)
col_hi f a x b c H A X B C h k u v = elim (either_sign c) [
  | inl z ↦ le_trans_f (mul f x c) (mul f b c) H (subst (λ (w : Float). T (le w (mul f b c))) (mul_swap f c x C X) (subst (λ (w : Float). T (le (mul f c x) w)) (mul_swap f c b C B) (mul_mono_r f c x b C X B z k))) v
  | inr z ↦ le_trans_f (mul f x c) (mul f a c) H (subst (λ (w : Float). T (le w (mul f a c))) (mul_swap f c x C X) (subst (λ (w : Float). T (le (mul f c x) w)) (mul_swap f c a C A) (mul_anti_r f c a x C A X z h))) u
]

-- the verdict on each of the four corners
corners : (g a b c d : Bool) → T (g && (a && (b && (c && d)))) → T a × T b × T c × T d
corners g a b c d h =
    let i = and_r g (a && (b && (c && d))) h in
    let j = and_r a (b && (c && d)) i in
    let k = and_r b (c && d) j in
    (and_l a (b && (c && d)) i, and_l b (c && d) j, and_l c d k, and_r c d k)

pub mul_in : (f : Format) (I J : Itv) (x y : Float) → T (good (imul f I J)) → T (good I) → T (good J) → In x I → In y J → In (mul f x y) (imul f I J)
mul_in f (mk a b) (mk c d) x y t g g' (h, k) (h', k') =
    let A = and_l (finite a) (finite b) g in
    let B = and_r (finite a) (finite b) g in
    let C = and_l (finite c) (finite d) g' in
    let D = and_r (finite c) (finite d) g' in
    let X = finite_between a x b A B h k in
    let Y = finite_between c y d C D h' k' in
    let p = mul f a c in
    let q = mul f a d in
    let r = mul f b c in
    let s = mul f b d in
    let lo = fmin (fmin p q) (fmin r s) in
    let hi = fmax (fmax p q) (fmax r s) in
    let G = good (mk a b) && good (mk c d) in
    let W : T (G && (within lo p hi && (within lo q hi && (within lo r hi && within lo s hi)))) = guard_is (G && (within lo p hi && (within lo q hi && (within lo r hi && within lo s hi)))) (mk lo hi) t in
    let w = corners G (within lo p hi) (within lo q hi) (within lo r hi) (within lo s hi) W in
    let xc_lo : T (le lo (mul f x c)) = col_lo f a x b c lo A X B C h k (and_l (le lo p) (le p hi) w.0) (and_l (le lo r) (le r hi) w.2) in
    let xc_hi : T (le (mul f x c) hi) = col_hi f a x b c hi A X B C h k (and_r (le lo p) (le p hi) w.0) (and_r (le lo r) (le r hi) w.2) in
    let xd_lo : T (le lo (mul f x d)) = col_lo f a x b d lo A X B D h k (and_l (le lo q) (le q hi) w.1) (and_l (le lo s) (le s hi) w.3) in
    let xd_hi : T (le (mul f x d) hi) = col_hi f a x b d hi A X B D h k (and_r (le lo q) (le q hi) w.1) (and_r (le lo s) (le s hi) w.3) in
    guard_in (mul f x y) (G && (within lo p hi && (within lo q hi && (within lo r hi && within lo s hi)))) (mk lo hi) W
    (elim (either_sign x) [
      | inl z ↦ (le_trans_f lo (mul f x c) (mul f x y) xc_lo (mul_mono_r f x c y X C Y z h'), le_trans_f (mul f x y) (mul f x d) hi (mul_mono_r f x y d X Y D z k') xd_hi)
      | inr z ↦ (le_trans_f lo (mul f x d) (mul f x y) xd_lo (mul_anti_r f x y d X Y D z k'), le_trans_f (mul f x y) (mul f x c) hi (mul_anti_r f x c y X C Y z h') xc_hi)
    ])

-- ---- what is above a value above zero
pub positive_parts : (c : Float) → T (positive c) → (N c ≡ 0) × (0 < P c)
positive_parts nan p = absurd p
positive_parts (inf s) p = absurd p
positive_parts (fin true m e) p = absurd p
positive_parts (fin false m e) p = (refl, mul-pos (ltb→lt 0 m p) (up_pos e))

pub above_parts : (c y : Float) → T (positive c) → T (finite c) → T (finite y) → T (le c y) → (N y ≡ 0) × (0 < P y)
above_parts c y p C Y h =
    let q = positive_parts c p in
    let l = Le_of_le c y C Y h in
    let a : 0 < P c * den y = mul-pos q.1 (den_pos y) in
    let b : N c * den y ≡ 0 = ap (λ (u : ℕ). u * den y) q.0 ∙ zero-mul (den y) in
    let w : 0 < P y = elim (eq-zero-or-pos (P y)) [ inl z ↦ (let e : P y * den c ≡ 0 = ap (λ (u : ℕ). u * den c) z ∙ zero-mul (den c) in absurd (lt_irrefl 0 (omega arith))) | inr u ↦ u ] in
    elim (either_sign y) [ inl z ↦ (z, w) | inr z ↦ absurd (lt_irrefl 0 (subst (λ (u : ℕ). 0 < u) z w)) ]

pub div_in : (f : Format) (I J : Itv) (x y : Float) → T (good (idiv f I J)) → T (good I) → T (good J) → In x I → In y J → In (div f x y) (idiv f I J)
div_in f (mk a b) (mk c d) x y t g g' (h, k) (h', k') =
    let A = and_l (finite a) (finite b) g in
    let B = and_r (finite a) (finite b) g in
    let C = and_l (finite c) (finite d) g' in
    let D = and_r (finite c) (finite d) g' in
    let X = finite_between a x b A B h k in
    let Y = finite_between c y d C D h' k' in
    let p = div f a c in
    let q = div f a d in
    let r = div f b c in
    let s = div f b d in
    let lo = fmin (fmin p q) (fmin r s) in
    let hi = fmax (fmax p q) (fmax r s) in
    let G = good (mk a b) && (good (mk c d) && positive c) in
    let W : T (G && (within lo p hi && (within lo q hi && (within lo r hi && within lo s hi)))) = guard_is (G && (within lo p hi && (within lo q hi && (within lo r hi && within lo s hi)))) (mk lo hi) t in
    let W0 = and_l G (within lo p hi && (within lo q hi && (within lo r hi && within lo s hi))) W in
    let Pc : T (positive c) = and_r (good (mk c d)) (positive c) (and_r (good (mk a b)) (good (mk c d) && positive c) W0) in
    let w = corners G (within lo p hi) (within lo q hi) (within lo r hi) (within lo s hi) W in
    let pc = positive_parts c Pc in
    let py = above_parts c y Pc C Y h' in
    let pd = above_parts c d Pc C D (le_trans_f c y d h' k') in
    let ay_lo : T (le lo (div f a y)) = elim (either_sign a) [
      | inl z ↦ le_trans_f lo q (div f a y) (and_l (le lo q) (le q hi) w.1) (div_anti_r f a y d A Y D py.0 py.1 pd.0 pd.1 z k')
      | inr z ↦ le_trans_f lo p (div f a y) (and_l (le lo p) (le p hi) w.0) (div_mono_r f a c y A C Y pc.0 pc.1 py.0 py.1 z h')
    ] in
    let by_hi : T (le (div f b y) hi) = elim (either_sign b) [
      | inl z ↦ le_trans_f (div f b y) r hi (div_anti_r f b c y B C Y pc.0 pc.1 py.0 py.1 z h') (and_r (le lo r) (le r hi) w.2)
      | inr z ↦ le_trans_f (div f b y) s hi (div_mono_r f b y d B Y D py.0 py.1 pd.0 pd.1 z k') (and_r (le lo s) (le s hi) w.3)
    ] in
    guard_in (div f x y) (G && (within lo p hi && (within lo q hi && (within lo r hi && within lo s hi)))) (mk lo hi) W
    (le_trans_f lo (div f a y) (div f x y) ay_lo (div_mono_l f a x y A X Y py.0 py.1 h), le_trans_f (div f x y) (div f b y) hi (div_mono_l f x b y X B Y py.0 py.1 k) by_hi)
