-- Threshold models: the rank of a set is the smaller of the threshold and its members' total weight. Assumes nothing.
use Rattle.std.specs.Prelude.{◌≡◌, ℕ, zero, suc, ◌+◌, ◌≤◌, min, cond, List, length, slice_index}
use Rattle.matroid.specs.Members.{has}
use Rattle.formula.specs.Ranking.{Ranking}

-- the numbers of a threshold model, with the weights of participants 1 and so on
pub record Thresholds : Type 0 where
  pub participants : ℕ
  pub threshold : ℕ
  pub weights : List ℕ

-- the secret weighs 1
abbrev pub weight_at : List ℕ → ℕ → ℕ
weight_at weights zero = 1
weight_at weights (suc i) = slice_index weights i

-- the weight of those elements below k that are in the set s
abbrev pub weight_below : List ℕ → (k s : ℕ) → ℕ
weight_below weights zero s = 0
weight_below weights (suc k) s = weight_below weights k s + cond (has s k) (weight_at weights k) 0

abbrev pub threshold_ranks : Thresholds → Ranking
threshold_ranks t = record {
  n = t.participants;
  rank = λ s. min t.threshold (weight_below t.weights (t.participants + 1) s);
}

pub record LawfulThresholds (t : Thresholds) : Type 0 where
  pub some : 1 ≤ t.participants
  pub few : t.participants ≤ 7
  pub reached : 1 ≤ t.threshold
  pub weighed : length t.weights ≡ t.participants
