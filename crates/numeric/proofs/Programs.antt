-- Straight-line float code as data: what it computes, and an interval that holds it. Assumes nothing.
use Rattle.std.proofs.Common.{ℕ, zero, suc, ◌+◌, ◌*◌, Bool, true, false, ◌&&◌, T, List, [], ◌∷◌, le_refl}
use lib.Ieee.{Float, nan, inf, fin, Format, neg, add, sub, mul, div, le}
use lib.Ieee.Scale.{finite}
use Rattle.numeric.proofs.Rounding.{P, N, le_of_Le, and_l, and_r, and_i, le_trans_f, neg-le}
use lib.Ieee.Positive.{den, positive}
use Rattle.numeric.proofs.Intervals.{Itv, mk, In, good, bad, guard, box, iadd, ineg, imul, idiv, add_in, mul_in, div_in}

-- `at i` is the i-th value bound last, `lit c` a constant, `turned a` is a with its sign turned, `bind a b` is b with a's value bound.
pub data Code : Type 0 where
  at : ℕ → Code
  lit : Float → Code
  turned : Code → Code
  plus minus times over : Code → Code → Code
  bind : Code → Code → Code

abbrev pub fetch : List Float → ℕ → Float
fetch [] i = nan
fetch (x ∷ xs) zero = x
fetch (x ∷ xs) (suc i) = fetch xs i

abbrev pub ifetch : List Itv → ℕ → Itv
ifetch [] i = bad
ifetch (x ∷ xs) zero = x
ifetch (x ∷ xs) (suc i) = ifetch xs i

abbrev pub eval : Format → Code → List Float → Float
eval f (at i) xs = fetch xs i
eval f (lit c) xs = c
eval f (turned a) xs = neg (eval f a xs)
eval f (plus a b) xs = add f (eval f a xs) (eval f b xs)
eval f (minus a b) xs = sub f (eval f a xs) (eval f b xs)
eval f (times a b) xs = mul f (eval f a xs) (eval f b xs)
eval f (over a b) xs = div f (eval f a xs) (eval f b xs)
eval f (bind a b) xs = eval f b (eval f a xs ∷ xs)

-- an interval with its verdict: bad where an end is not finite
abbrev pub span : Format → Code → List Itv → Itv
span f (at i) Is = ifetch Is i
span f (lit c) Is = mk c c
span f (turned a) Is = ineg (span f a Is)
span f (plus a b) Is = iadd f (span f a Is) (span f b Is)
span f (minus a b) Is = iadd f (span f a Is) (ineg (span f b Is))
span f (times a b) Is = imul f (span f a Is) (span f b Is)
span f (over a b) Is = idiv f (span f a Is) (span f b Is)
span f (bind a b) Is = span f b (span f a Is ∷ Is)

abbrev pub Held : List Float → List Itv → Type 0
Held [] [] = Unit {0}
Held [] (I ∷ Is) = ⊥
Held (x ∷ xs) [] = ⊥
Held (x ∷ xs) (I ∷ Is) = (T (good I) → In x I) × Held xs Is

fetched : (xs : List Float) (Is : List Itv) (i : ℕ) → Held xs Is → T (good (ifetch Is i)) → In (fetch xs i) (ifetch Is i)
fetched [] [] i h g = absurd g
fetched [] (I ∷ Is) i h g = absurd h
fetched (x ∷ xs) [] i h g = absurd h
fetched (x ∷ xs) (I ∷ Is) zero h g = h.0 g
fetched (x ∷ xs) (I ∷ Is) (suc i) h g = fetched xs Is i h.1 g

pub le_refl_f : (c : Float) → T (finite c) → T (le c c)
le_refl_f nan p = absurd p
le_refl_f (inf s) p = absurd p
le_refl_f (fin s m e) p = le_of_Le (fin s m e) (fin s m e) tt tt (le_refl (P (fin s m e) * den (fin s m e) + N (fin s m e) * den (fin s m e)))

-- good parts
guard_good : (b : Bool) (I : Itv) → T (good (guard b I)) → T b
guard_good true I t = tt
guard_good false I t = t

add_good : (f : Format) (I J : Itv) → T (good (iadd f I J)) → T (good I && good J)
add_good f (mk a b) (mk c d) t = guard_good (good (mk a b) && good (mk c d)) (mk (add f a c) (add f b d)) t

box_good : (b : Bool) (p q r s : Float) → T (good (box b p q r s)) → T b
box_good true p q r s t = tt
box_good false p q r s t = t

mul_good : (f : Format) (I J : Itv) → T (good (imul f I J)) → T (good I && good J)
mul_good f (mk a b) (mk c d) t = box_good (good (mk a b) && good (mk c d)) (mul f a c) (mul f a d) (mul f b c) (mul f b d) t

div_good : (f : Format) (I J : Itv) → T (good (idiv f I J)) → T (good I && good J)
div_good f (mk a b) (mk c d) t =
    let w = box_good (good (mk a b) && (good (mk c d) && positive c)) (div f a c) (div f a d) (div f b c) (div f b d) t in
    and_i (good (mk a b)) (good (mk c d)) (and_l (good (mk a b)) (good (mk c d) && positive c) w) (and_l (good (mk c d)) (positive c) (and_r (good (mk a b)) (good (mk c d) && positive c) w))

neg-finite : (x : Float) → T (finite (neg x)) → T (finite x)
unfolding neg
neg-finite nan p = p
neg-finite (inf s) p = p
neg-finite (fin s m e) p = tt

neg_good : (I : Itv) → T (good (ineg I)) → T (good I)
neg_good (mk a b) t = and_i (finite a) (finite b) (neg-finite a (and_r (finite (neg b)) (finite (neg a)) t)) (neg-finite b (and_l (finite (neg b)) (finite (neg a)) t))

pub neg_in : (I : Itv) (x : Float) → In x I → In (neg x) (ineg I)
neg_in (mk a b) x (h, k) = (neg-le x b k, neg-le a x h)

sub_in : (f : Format) (I J : Itv) (x y : Float) → T (good I) → T (good (ineg J)) → In x I → In y J → In (sub f x y) (iadd f I (ineg J))
unfolding sub
sub_in f I J x y g g' h k = add_in f I (ineg J) x (neg y) g g' h (neg_in J y k)

pub sound : (f : Format) (e : Code) (xs : List Float) (Is : List Itv) → Held xs Is → T (good (span f e Is)) → In (eval f e xs) (span f e Is)
sound f (at i) xs Is h g = fetched xs Is i h g
sound f (lit c) xs Is h g = (le_refl_f c (and_l (finite c) (finite c) g), le_refl_f c (and_l (finite c) (finite c) g))
sound f (turned a) xs Is h g = neg_in (span f a Is) (eval f a xs) (sound f a xs Is h (neg_good (span f a Is) g))
sound f (plus a b) xs Is h g =
    let I = span f a Is in
    let J = span f b Is in
    let w = add_good f I J g in
    add_in f I J (eval f a xs) (eval f b xs) (and_l (good I) (good J) w) (and_r (good I) (good J) w) (sound f a xs Is h (and_l (good I) (good J) w)) (sound f b xs Is h (and_r (good I) (good J) w))
sound f (minus a b) xs Is h g =
    let I = span f a Is in
    let J = span f b Is in
    let w = add_good f I (ineg J) g in
    sub_in f I J (eval f a xs) (eval f b xs) (and_l (good I) (good (ineg J)) w) (and_r (good I) (good (ineg J)) w) (sound f a xs Is h (and_l (good I) (good (ineg J)) w)) (sound f b xs Is h (neg_good J (and_r (good I) (good (ineg J)) w)))
sound f (times a b) xs Is h g =
    let I = span f a Is in
    let J = span f b Is in
    let w = mul_good f I J g in
    mul_in f I J (eval f a xs) (eval f b xs) g (and_l (good I) (good J) w) (and_r (good I) (good J) w) (sound f a xs Is h (and_l (good I) (good J) w)) (sound f b xs Is h (and_r (good I) (good J) w))
sound f (over a b) xs Is h g =
    let I = span f a Is in
    let J = span f b Is in
    let w = div_good f I J g in
    div_in f I J (eval f a xs) (eval f b xs) g (and_l (good I) (good J) w) (and_r (good I) (good J) w) (sound f a xs Is h (and_l (good I) (good J) w)) (sound f b xs Is h (and_r (good I) (good J) w))
sound f (bind a b) xs Is h g = sound f b (eval f a xs ∷ xs) (span f a Is ∷ Is) ((λ (t : T (good (span f a Is))). sound f a xs Is h t), h) g

-- the interval lies in [lo, hi]
abbrev pub fits_in : Itv → Float → Float → Bool
fits_in (mk a b) lo hi = good (mk a b) && (le lo a && le b hi)

pub widen : (x : Float) (I : Itv) (lo hi : Float) → T (fits_in I lo hi) → (T (good I) → In x I) → T (le lo x) × T (le x hi)
widen x (mk a b) lo hi t h =
    let g = and_l (good (mk a b)) (le lo a && le b hi) t in
    let u = and_r (good (mk a b)) (le lo a && le b hi) t in
    (le_trans_f lo a x (and_l (le lo a) (le b hi) u) (h g).0, le_trans_f x b hi (h g).1 (and_r (le lo a) (le b hi) u))

-- one variable
pub bounded : (f : Format) (e : Code) (a b lo hi x : Float) → T (fits_in (span f e (mk a b ∷ [])) lo hi) → T (le a x) → T (le x b) → T (le lo (eval f e (x ∷ []))) × T (le (eval f e (x ∷ [])) hi)
bounded f e a b lo hi x t h k = widen (eval f e (x ∷ [])) (span f e (mk a b ∷ [])) lo hi t (λ (g : T (good (span f e (mk a b ∷ [])))). sound f e (x ∷ []) (mk a b ∷ []) ((λ (u : T (good (mk a b))). (h, k)), tt) g)

-- several variables
abbrev pub AllIn : List Float → List Itv → Type 0
AllIn [] [] = Unit {0}
AllIn [] (I ∷ Is) = ⊥
AllIn (x ∷ xs) [] = ⊥
AllIn (x ∷ xs) (I ∷ Is) = In x I × AllIn xs Is

all_held : (xs : List Float) (Is : List Itv) → AllIn xs Is → Held xs Is
all_held [] [] h = tt
all_held [] (I ∷ Is) h = h
all_held (x ∷ xs) [] h = h
all_held (x ∷ xs) (I ∷ Is) h = ((λ (t : T (good I)). h.0), all_held xs Is h.1)

pub bounded_all : (f : Format) (e : Code) (xs : List Float) (Is : List Itv) (lo hi : Float) → T (fits_in (span f e Is) lo hi) → AllIn xs Is → In (eval f e xs) (mk lo hi)
bounded_all f e xs Is lo hi t h = widen (eval f e xs) (span f e Is) lo hi t (λ (g : T (good (span f e Is))). sound f e xs Is (all_held xs Is h) g)
