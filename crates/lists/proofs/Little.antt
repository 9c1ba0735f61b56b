-- The laws of numbers as bytes, over how many there are.
use mathlib.Core.Path.{◌≡◌, refl, sym, ap, ◌∙◌}
use mathlib.Core.List.{List, [], ◌∷◌, ◌++◌}
use Prim.Native.Nat.{ℕ, zero, suc, ◌+◌, ◌-◌, ◌*◌, ◌/◌, ◌%◌, ◌^◌, ◌≤◌, ◌<◌, zero-le, suc-le-suc}
use native.Mathlib.Nat.{zero-add, add-zero, add-suc, suc-add, add_comm, add_assoc, mul_assoc, zero-lt-suc, pow-suc, pow-succ', one-le-pow, div-div-eq-div-mul, div-eq_of_lt, add-mul-div_right}
use native.Mathlib.Omega.{arith}
use lib.Arith.{digits_mod}
use lib.ListN.{length, take, drop, get_or-append}
use lib.Seq.{drop-cons, get_or-append-add, get_or-take, get_or-drop}
use Rattle.lists.specs.Lists.{byte}
use Rattle.lists.specs.Little.{little, weighed, bytes_of}

-- a byte is taken off before the others
shift : (u j : ℕ) → u / 256 / 256 ^ j ≡ u / 256 ^ suc j
shift u j = div-div-eq-div-mul u 256 (256 ^ j) ∙ rw (pow-succ' 256 j)

-- ---- a number's bytes

pub bytes_length : (n u : ℕ) → length (bytes_of n u) ≡ n
unfolding bytes_of
bytes_length zero u = refl
bytes_length (suc n) u = ap suc (bytes_length n (u / 256))

-- bytes written out, from the byte that weighs 256 ^ j on
pub bytes_from : (n u j x : ℕ) (xs : List ℕ) → x ≡ u / 256 ^ j % 256 → xs ≡ bytes_of n (u / 256 ^ suc j) → x ∷ xs ≡ bytes_of (suc n) (u / 256 ^ j)
unfolding bytes_of
bytes_from n u j x xs p q =
    let e : u / 256 ^ suc j ≡ u / 256 ^ j / 256 = sym (div-div-eq-div-mul u (256 ^ j) 256 ∙ rw (pow-suc 256 j)) in
    rw (p, q, e)

pub bytes_none : (u : ℕ) → [] ≡ bytes_of 0 u
unfolding bytes_of
bytes_none u = refl

-- the first m, and n after them
pub bytes_split : (m n u : ℕ) → bytes_of (m + n) u ≡ bytes_of m u ++ bytes_of n (u / 256 ^ m)
unfolding bytes_of
bytes_split zero n u = let e : u / 1 ≡ u = omega arith in rw (zero-add n, e)
bytes_split (suc m) n u = rw (suc-add m n, bytes_split m n (u / 256), shift u m)

bytes_low : (m u v : ℕ) → bytes_of m (u + v * 256 ^ m) ≡ bytes_of m u
unfolding bytes_of
bytes_low zero u v = refl
bytes_low (suc m) u v =
    let w : v * 256 ^ suc m ≡ v * 256 ^ m * 256 = rw (pow-suc 256 m) (sym (mul_assoc v (256 ^ m) 256)) in
    let p : (u + v * 256 ^ suc m) % 256 ≡ u % 256 = omega arith in
    let q : (u + v * 256 ^ suc m) / 256 ≡ u / 256 + v * 256 ^ m = omega arith in
    rw (p, q, bytes_low m (u / 256) v)

pub bytes_joined : (m n u v : ℕ) → u < 256 ^ m → bytes_of (m + n) (u + v * 256 ^ m) ≡ bytes_of m u ++ bytes_of n v
bytes_joined m n u v l =
    let e : (u + v * 256 ^ m) / 256 ^ m ≡ v = add-mul-div_right u v (one-le-pow m 256 (zero-lt-suc 255)) ∙ rw (div-eq_of_lt l) (zero-add v) in
    bytes_split m n (u + v * 256 ^ m) ∙ rw (bytes_low m u v, e)

-- ---- the number that bytes spell

pub little_one : (d : List ℕ) (a : ℕ) → little 1 d a ≡ byte d a
unfolding little
little_one d a = omega arith

-- the first m, and n after them
pub little_joined : (m n : ℕ) (d : List ℕ) (a : ℕ) → little (m + n) d a ≡ little m d a + little n d (a + m) * 256 ^ m
unfolding little
little_joined zero n d a = rw (zero-add n, add-zero a) (omega arith)
little_joined (suc m) n d a =
    let q = little n d (suc (a + m)) in
    let w : q * 256 ^ suc m ≡ q * 256 ^ m * 256 = rw (pow-suc 256 m) (sym (mul_assoc q (256 ^ m) 256)) in
    let i = little_joined m n d (suc a) in
    rw (suc-add m n, i, suc-add a m, add-suc a m, w) (omega arith)

pub little_last : (n : ℕ) (d : List ℕ) (a : ℕ) → little (n + 1) d a ≡ little n d a + byte d (a + n) * 256 ^ n
little_last n d a = little_joined n 1 d a ∙ rw (little_one d (a + n))

-- the same number where the same bytes stand
pub little_same : (n : ℕ) (d e : List ℕ) (a b : ℕ) → ((j : ℕ) → j < n → byte d (a + j) ≡ byte e (b + j)) → little n d a ≡ little n e b
unfolding little
little_same zero d e a b h = refl
little_same (suc n) d e a b h =
    let f : byte d a ≡ byte e b = rw (add-zero a, add-zero b) at (h 0 (suc-le-suc zero-le)) in
    let g = little_same n d e (suc a) (suc b) (λ j l. rw (suc-add a j, suc-add b j, ← add-suc a j, ← add-suc b j) (h (suc j) (suc-le-suc l))) in
    rw (f, g)

pub little_zero : (n : ℕ) (d : List ℕ) (a : ℕ) → ((j : ℕ) → j < n → byte d (a + j) ≡ 0) → little n d a ≡ 0
unfolding little
little_zero zero d a h = refl
little_zero (suc n) d a h =
    let f : byte d a ≡ 0 = rw (add-zero a) at (h 0 (suc-le-suc zero-le)) in
    rw (f, little_zero n d (suc a) (λ j l. rw (suc-add a j, ← add-suc a j) (h (suc j) (suc-le-suc l))))

-- of bytes after others, and of a part
pub little_after : (n : ℕ) (p d : List ℕ) (a : ℕ) → little n (p ++ d) (length p + a) ≡ little n d a
little_after n p d a = little_same n (p ++ d) d (length p + a) a (λ j h. rw (add_assoc (length p) a j) (get_or-append-add p d (a + j) 0))

pub little_part : (n : ℕ) (d : List ℕ) (a m : ℕ) → n ≤ m → little n (take m (drop a d)) 0 ≡ little n d a
little_part n d a m l =
    little_same n (take m (drop a d)) d 0 a (λ j h. rw (zero-add j) (get_or-take m (drop a d) j 0 (omega arith) ∙ get_or-drop a d j 0))

-- what stands at a is the number whose bytes stand there
pub little_spelled : (n : ℕ) (d : List ℕ) (a u : ℕ) → u < 256 ^ n → ((j : ℕ) → j < n → byte d (a + j) ≡ byte (bytes_of n u) j) → little n d a ≡ u
unfolding little bytes_of
little_spelled zero d a u l h = omega arith
little_spelled (suc n) d a u l h =
    let f : byte d a ≡ u % 256 = rw (add-zero a) at (h 0 (suc-le-suc zero-le)) in
    let m : u / 256 < 256 ^ n = omega (arith, rw (pow-suc 256 n) at l) in
    let g = little_spelled n d (suc a) (u / 256) m (λ j k. rw (suc-add a j, ← add-suc a j) (h (suc j) (suc-le-suc k))) in
    rw (f, g) (omega arith)

-- a number's bytes at the front are that number
pub little_front : (n u : ℕ) (d : List ℕ) → u < 256 ^ n → little n (bytes_of n u ++ d) 0 ≡ u
little_front n u d l =
    little_spelled n (bytes_of n u ++ d) 0 u l (λ j h. rw (zero-add j) (get_or-append (bytes_of n u) d 0 j (rw (bytes_length n u) h)))

-- ---- bytes below 256

pub little_below : (n : ℕ) (d : List ℕ) (a : ℕ) → ((i : ℕ) → byte d i < 256) → little n d a < 256 ^ n
unfolding little
little_below zero d a h = omega arith
little_below (suc n) d a h = rw (pow-suc 256 n) (omega (arith, h a, little_below n d (suc a) h))

-- n bytes after m others, by what they weigh
pub little_middle : (m n k : ℕ) (d : List ℕ) (a : ℕ) → ((i : ℕ) → byte d i < 256) → little (m + (n + k)) d a / 256 ^ m % 256 ^ n ≡ little n d (a + m)
little_middle m n k d a h =
    let y = little (n + k) d (a + m) in
    let x = little n d (a + m) in
    let z = little k d (a + m + n) in
    let p : (little m d a + y * 256 ^ m) / 256 ^ m ≡ y =
    add-mul-div_right (little m d a) y (one-le-pow m 256 (zero-lt-suc 255)) ∙ rw (div-eq_of_lt (little_below m d a h)) (zero-add y) in
    let q : (x + z * 256 ^ n) % 256 ^ n ≡ x = rw (add_comm x (z * 256 ^ n)) (digits_mod z (little_below n d (a + m) h)) in
    rw (little_joined m (n + k) d a, p, little_joined n k d (a + m)) q

-- the byte at a place
pub little_byte : (n : ℕ) (d : List ℕ) (a j : ℕ) → ((i : ℕ) → byte d i < 256) → j < n → little n d a / 256 ^ j % 256 ≡ byte d (a + j)
little_byte n d a j h l =
    let e : n ≡ j + (1 + (n - suc j)) = omega arith in
    ap (λ (x : ℕ). little x d a / 256 ^ j % 256) e ∙ little_middle j 1 (n - suc j) d a h ∙ little_one d (a + j)

-- the bytes that a number is read from
pub bytes_back : (n : ℕ) (d : List ℕ) (a : ℕ) → a + n ≤ length d → ((i : ℕ) → byte d i < 256) → bytes_of n (little n d a) ≡ take n (drop a d)
unfolding little bytes_of
bytes_back zero d a l h = refl
bytes_back (suc n) d a l h =
    let b = h a in
    let r = little n d (suc a) in
    let p : (byte d a + r * 256) % 256 ≡ byte d a = omega arith in
    let q : (byte d a + r * 256) / 256 ≡ r = omega arith in
    rw (p, q, drop-cons d a 0 (omega arith)) (ap (λ (m : List ℕ). byte d a ∷ m) (bytes_back n d (suc a) (omega arith) h))

-- ---- what each byte weighs

-- a byte more, above the others
little_more : (n : ℕ) (d : List ℕ) (a : ℕ) → little (suc n) d a ≡ little n d a + byte d (a + n) * 256 ^ n
unfolding little
little_more zero d a = rw (add-zero a) (omega arith)
little_more (suc n) d a =
    let e : little (suc n) d (suc a) ≡ little n d (suc a) + byte d (a + suc n) * 256 ^ n = rw (suc-add a n, ← add-suc a n) at (little_more n d (suc a)) in
    rw (pow-suc 256 n, ← mul_assoc (byte d (a + suc n)) (256 ^ n) 256) (omega (arith, e))

pub little_weighs : (n : ℕ) (d : List ℕ) (a : ℕ) → weighed n d a ≡ little n d a
unfolding little
little_weighs zero d a = refl
little_weighs (suc n) d a = rw (little_weighs n d a) (sym (little_more n d a))
