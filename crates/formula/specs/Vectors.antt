-- Models made of vectors: the rank of a set is the dimension of the span of its members' vectors. Assumes nothing.
use Rattle.std.specs.Prelude.{◌≡◌, ℕ, ◌≤◌, Bool, true, cond, ◌||◌, List, ◌==◌}
use Rattle.field.specs.Laws.{Ops}
use Rattle.galois.specs.Modular.{is_prime_order, prime_ops}
use Rattle.galois.specs.Polynomials.{is_computed_order, binary_ops}
use Rattle.span.specs.Dimension.{dimension}
use Rattle.elimination.specs.Rows.{row}
use Rattle.formula.specs.Holding.{held_by_all, LawfulHolding}
use Rattle.formula.specs.Ranking.{Ranking}

-- the orders of the fields at hand: 2, 3, 4, 5, 7, 8, 11, 13 and 16
abbrev pub is_order : ℕ → Bool
is_order q = is_prime_order q || is_computed_order q || q == 16

-- the field of a listed order
abbrev pub field_of : ℕ → Ops
field_of q = cond (is_prime_order q) (prime_ops q) (binary_ops q)

-- the numbers of a vector model: each vector has `width` codes of the field of that order
pub record Vectors : Type 0 where
  pub order : ℕ
  pub participants : ℕ
  pub width : ℕ
  pub counts : List ℕ
  pub codes : List ℕ

abbrev pub vector_ranks : Vectors → Ranking
vector_ranks v = record {
  n = v.participants;
  rank = λ s. dimension (field_of v.order) v.width (held_by_all (row v.codes v.width) v.counts s);
}

pub record LawfulVectors (v : Vectors) : Type 0 where
  pub listed : is_order v.order ≡ true
  pub some : 1 ≤ v.participants
  pub few : v.participants ≤ 7
  pub wide : 1 ≤ v.width
  pub narrow : v.width ≤ 16
  pub holding : LawfulHolding v.participants v.width v.order v.counts v.codes
