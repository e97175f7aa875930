-- The fields at hand are fields, and the dimension of the span of a set's vectors is a polymatroid. Assumes nothing.
use Rattle.std.proofs.Common.{◌≡◌, ℕ, ◌+◌, Bool, true, false, cond, ◌||◌, eqb, List, length, sym, refl, subst}
use Rattle.field.specs.Laws.{Lawful}
use Rattle.galois.specs.Modular.{is_prime_order, prime_ops}
use Rattle.galois.specs.Polynomials.{is_computed_order, binary_ops}
use Rattle.galois.specs.Orders.{prime_laws, binary_laws}
use Rattle.polymatroid.specs.Polymatroid.{Polymatroid}
use Rattle.matroid.specs.Members.{members}
use Rattle.span.specs.Dimension.{dimension}
use Rattle.span.proofs.Dimensions.{dimensions_polymatroid}
use Rattle.elimination.specs.Rows.{row}
use Rattle.formula.specs.Holding.{held_by, held_by_all}
use Rattle.formula.specs.Vectors.{is_order, field_of}
use Rattle.formula.specs.Theorems.{VectorsPolymatroid}

pub field_lawful : (q : ℕ) → is_order q ≡ true → Lawful (field_of q)
field_lawful q h = go (is_prime_order q) refl
  where
    go : (b : Bool) → is_prime_order q ≡ b → Lawful (cond b (prime_ops q) (binary_ops q))
    go true e = prime_laws q e
    go false e = binary_laws q (subst (λ x. (x || is_computed_order q || eqb q 16) ≡ true) e h)

pub vectors_polymatroid : (q n d : ℕ) (counts codes : List ℕ) → is_order q ≡ true → length counts ≡ n + 1
    → Polymatroid n (λ s. dimension (field_of q) d (held_by_all (row codes d) counts s))
vectors_polymatroid q n d counts codes h e =
    subst (λ k. Polymatroid n (λ s. dimension (field_of q) d (members (held_by (row codes d) counts) k s))) (sym e)
    (dimensions_polymatroid (field_of q) (field_lawful q h) d (held_by (row codes d) counts) n)

pub vectors_lawful : VectorsPolymatroid
vectors_lawful v l =
    vectors_polymatroid v.order v.participants v.width v.counts v.codes l.listed l.holding.counted
