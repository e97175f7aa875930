-- The number of nodes minus the number of parts under a set's edges is a polymatroid. Assumes nothing.
use Rattle.std.proofs.Common.{◌≡◌, ℕ, zero, suc, ◌+◌, ◌-◌, ◌*◌, ◌<◌, List, [], ◌∷◌, length, get_or, sym, subst, not-suc-le-zero, arith}
use mathlib.Core.List.Memᴰ
use mathlib.Core.List.{Memᴰ}
use Rattle.std.specs.List.{AllByRecursion}
use Rattle.polymatroid.specs.Polymatroid.{Polymatroid}
use Rattle.matroid.specs.Members.{members}
use Rattle.graph.specs.Graph.{Edge, parts, Inside}
use Rattle.graph.proofs.Parts.{parts_polymatroid}
use Rattle.formula.specs.Holding.{before, items_from, held_by, LawfulHolding}
use Rattle.formula.specs.Graphs.{edge_at}
use Rattle.formula.specs.Theorems.{GraphsPolymatroid}
use Rattle.formula.proofs.Gathering.{items_within}

each : (v : ℕ) (xs : List ℕ) (k : ℕ) → AllByRecursion (λ b. b < v) xs → k < length xs → get_or xs k 0 < v
each v [] k h l = absurd (not-suc-le-zero l)
each v (x ∷ xs) zero h l = h.0
each v (x ∷ xs) (suc k) h l = each v xs k h.1 (omega arith)

-- an item among k of them from r on has a number there
numbered : {E : Type 0} (item : ℕ → E) (r k : ℕ) (e : E) → Memᴰ e (items_from item r k) → (j : ℕ) × (j < r + k) × (e ≡ item j)
numbered item r zero e m = absurd (Memᴰ.not-nil m)
numbered item r (suc k) e (Memᴰ.head p) = (r, omega arith, p)
numbered item r (suc k) e (Memᴰ.tail m) = let n = numbered item (suc r) k e m in let l = n.1 in (n.0, omega arith, n.2)

inside : (n v : ℕ) (counts ends : List ℕ) → LawfulHolding n 2 v counts ends → (i : ℕ) → Inside v (held_by (edge_at ends) counts i)
inside n v counts ends h i e m =
    let j = numbered (edge_at ends) (before counts i) (get_or counts i 0) e m in
    let within = items_within counts i in
    let below = j.1 in
    let sized = h.sized in
    subst (λ (d : Edge). (d.0 < v) × (d.1 < v)) (sym j.2)
    (each v ends (j.0 * 2) h.below (omega arith), each v ends (j.0 * 2 + 1) h.below (omega arith))

pub graphs_lawful : GraphsPolymatroid
graphs_lawful g l =
    subst (λ k. Polymatroid g.participants (λ s. g.nodes - parts g.nodes (members (held_by (edge_at g.ends) g.counts) k s))) (sym l.holding.counted)
    (parts_polymatroid g.nodes g.participants (held_by (edge_at g.ends) g.counts) (λ i h. inside g.participants g.nodes g.counts g.ends l.holding i))
