-- A test that passes over a range or a list passes at each place of it. Assumes nothing.
use Rattle.std.specs.Prelude.{◌≡◌, ℕ, zero, suc, ◌<◌, Bool, true, cond, ◌||◌, ◌==◌, List, [], ◌∷◌, refl}
use Rattle.std.proofs.Common.{inl, inr, arith}
use Rattle.std.proofs.lemmas.Bool.{and_parts, or_cases, eqb-true}
use Rattle.polymatroid.specs.Tests.{all_below}
use Rattle.polymatroid.proofs.Decides.{below_each}
use Rattle.galois.specs.Orders.Tests.{all2, all3, all_listed, all_true, nth}

pub below_each2 : (test : ℕ → ℕ → Bool) (q a b : ℕ) → all2 q test ≡ true → a < q → b < q → test a b ≡ true
below_each2 test q a b p ha hb = below_each (test a) q b (below_each (λ a. all_below q (test a)) q a p ha) hb

pub below_each3 : (test : ℕ → ℕ → ℕ → Bool) (q a b c : ℕ) → all3 q test ≡ true → a < q → b < q → c < q → test a b c ≡ true
below_each3 test q a b c p ha hb hc = below_each2 (test a) q b c (below_each (λ a. all2 q (test a)) q a p ha) hb hc

pub pick : (bs : List Bool) (i : ℕ) → all_true bs ≡ true → nth bs i ≡ true
pick [] i p = refl
pick (b ∷ bs) zero p = (and_parts b (all_true bs) p).0
pick (b ∷ bs) (suc i) p = pick bs i (and_parts b (all_true bs) p).1

pub listed_each : (n : ℕ) (listed test : ℕ → Bool) (q : ℕ) → all_listed n listed test ≡ true → q < n → listed q ≡ true → test q ≡ true
listed_each n listed test q p l h = rw h at (below_each (λ q. cond (listed q) (test q) true) n q p l)

pub only_of : (q m k : ℕ) → m < k → (q == m) ≡ true → q < k
only_of q m k l h = let same : q ≡ m = eqb-true q m h in omega arith

-- a number that is below k by the front of a list, or is its last number m, is below k
pub one_of : (q m k : ℕ) (front : Bool) → m < k → (front ≡ true → q < k) → (front || q == m) ≡ true → q < k
one_of q m k front l others h = elim (or_cases front (q == m) h) [ inl f ↦ others f | inr e ↦ only_of q m k l e ]
