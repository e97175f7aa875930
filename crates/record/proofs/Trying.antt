-- What an Ok tells of the steps before it, and what a passed test leaves. Assumes nothing.
use Rattle.std.proofs.Common.{◌↔◌, ◌≡◌, ℕ, ◌≤◌, Bool, true, false, ◌&&◌, eqb, leb, List, [], ◌∷◌, length, Decides, Ok, Err, Result, refl, ap}
use Rattle.std.proofs.lemmas.Bool.{le-leb, leb-true, false≢true}
use Rattle.std.proofs.lemmas.Bool.Decides.{Decides-and, Decides-eqb}
use Rattle.record.specs.Reading.{tried, and_then, refused_as, byte, marked, holds}

pub tried_ok : {A E : Type 0} (test : Bool) (e : E) (r : Result A E) (x : A) → tried test e r ≡ Ok x → (test ≡ true) × (r ≡ Ok x)
tried_ok true e r x p = (refl, p)
tried_ok false e r x p = cc

pub tried_pass : {A E : Type 0} (test : Bool) (e : E) (r : Result A E) → test ≡ true → tried test e r ≡ r
tried_pass test e r p = rw p

pub and_then_ok : {A B E : Type 0} (r : Result A E) (f : A → Result B E) (y : B) → and_then r f ≡ Ok y → (x : A) × (r ≡ Ok x) × (f x ≡ Ok y)
and_then_ok (Ok a) f y p = (a, refl, p)
and_then_ok (Err e) f y p = cc

pub refused_as_ok : {A E F : Type 0} (f : E → F) (r : Result A E) (x : A) → refused_as f r ≡ Ok x → r ≡ Ok x
refused_as_ok f (Ok a) x p = cc
refused_as_ok f (Err e) x p = cc

pub ok_same : {A E : Type 0} (x y : A) → ◌≡◌ {A = Result A E} (Ok x) (Ok y) → x ≡ y
ok_same x y p = cc

-- a test, and what the rest says, both ways
pub tried_says : {A E P Q : Type 0} (test : Bool) (e : E) (r : Result A E) (x : A) → Decides test P → ((r ≡ Ok x) ↔ Q) → (tried test e r ≡ Ok x) ↔ (P × Q)
tried_says true e r x d k = (λ p. (d.0 refl, k.0 p), λ h. k.1 h.1)
tried_says false e r x d k = (λ p. cc, λ h. absurd (false≢true (d.1 h.0)))

pub ok_says : {A E : Type 0} (x y : A) → (◌≡◌ {A = Result A E} (Ok x) (Ok y)) ↔ (x ≡ y)
ok_says x y = (ok_same x y, λ e. ap Ok e)

-- ---- what the tests of a record decide
pub between_decides : (low k high : ℕ) → Decides (leb low k && leb k high) ((low ≤ k) × (k ≤ high))
between_decides low k high = Decides-and (leb low k) (leb k high) (leb-true low k, le-leb low k) (leb-true k high, le-leb k high)

pub marked_decides : (bytes : List ℕ) (m₀ m₁ : ℕ) → Decides (marked bytes (m₀ ∷ m₁ ∷ [])) ((byte bytes 0 ≡ m₀) × (byte bytes 1 ≡ m₁))
marked_decides bytes m₀ m₁ = Decides-and (eqb (byte bytes 0) m₀) (eqb (byte bytes 1) m₁) (Decides-eqb (byte bytes 0) m₀) (Decides-eqb (byte bytes 1) m₁)

pub holds_decides : (k : ℕ) (bytes : List ℕ) → Decides (holds k bytes) (k ≤ length bytes)
holds_decides k bytes = (leb-true k (length bytes), le-leb k (length bytes))
