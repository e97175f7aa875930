-- The tests of sets and coalitions decide what they are named for. Assumes nothing.
use Rattle.std.proofs.Common.{◌≡◌, ℕ, ◌+◌, ◌^◌, ◌<◌, Bool, true, eqb, length, get_or, Decides, sym, refl, arith}
use lib.Bits.{bit_and}
use Rattle.std.specs.List.{list_all, range_with_len}
use Rattle.std.proofs.lemmas.List.Sums.{AllPass-from_list_all, list_all-from_AllPass}
use Rattle.std.proofs.lemmas.List.FromFn.{length-range_with_len, get_or-range_with_len}
use Rattle.std.proofs.lemmas.Bool.Decides.{Decides-ltb, Decides-eqb, Decides-and, Decides-below_and, same_from_decides}
use Rattle.polymatroid.specs.Sets.{secret, InGround, Within, Coalition}
use Rattle.polymatroid.specs.Tests.{in_ground, within, coalition, all_below}

pub ground_decides : (n a : ℕ) → Decides (in_ground n a) (InGround n a)
ground_decides n a = Decides-ltb a (2 ^ (n + 1))

pub within_decides : (a b : ℕ) → Decides (within a b) (Within a b)
within_decides a b = Decides-eqb (bit_and a b) a

pub coalition_decides : (n a : ℕ) → Decides (coalition n a) (Coalition n a)
coalition_decides n a = Decides-and (in_ground n a) (eqb (bit_and a secret) 0) (ground_decides n a) (Decides-eqb (bit_and a secret) 0)

below_decides : (k : ℕ) (test : ℕ → Bool) → Decides (all_below k test) ((s : ℕ) → s < k → test s ≡ true)
below_decides k test = Decides-below_and test (λ s. test s ≡ true) (λ k. all_below k test) (λ s. (λ e. e, λ e. e)) refl (λ k. refl) k

-- a test that passes at every number below k passes at each of them
pub below_each : (test : ℕ → Bool) (k s : ℕ) → all_below k test ≡ true → s < k → test s ≡ true
below_each test k s p l = (below_decides k test).0 p s l

pub all_pass : (k : ℕ) (test : ℕ → Bool) → ((s : ℕ) → s < k → test s ≡ true) → true ≡ all_below k test
all_pass k test h = sym ((below_decides k test).1 h)

-- the test at every number below n, counted upwards
pub upwards : (n : ℕ) (test : ℕ → Bool) → list_all test (range_with_len 0 n) ≡ all_below n test
upwards n test = same_from_decides _ _ (each, from_each) (below_decides n test)
  where
    long : length (range_with_len 0 n) ≡ n
    long = length-range_with_len 0 n

    at : (s d : ℕ) → s < n → get_or (range_with_len 0 n) s d ≡ s
    at s d l = omega (arith, get_or-range_with_len 0 n s d l)

    each : list_all test (range_with_len 0 n) ≡ true → (s : ℕ) → s < n → test s ≡ true
    each p s l = rw (← at s 0 l) (AllPass-from_list_all test (range_with_len 0 n) p s 0 (omega (arith, long)))

    from_each : ((s : ℕ) → s < n → test s ≡ true) → list_all test (range_with_len 0 n) ≡ true
    from_each h = list_all-from_AllPass test (range_with_len 0 n) (λ k d l. let m : k < n = omega (arith, long) in rw (at k d m) (h k m))
