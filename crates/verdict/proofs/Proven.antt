-- Two records give a bound exactly if they are those of minimal qualified sets and of a right certificate for them.
-- Assumes nothing.
use Rattle.std.proofs.Common.{◌≡◌, ℕ, Bool, List, ℤ, Ok, Err, Result, sym, refl, ap, ◌∙◌}
use Rattle.std.proofs.ByRecursion.{All-weaker}
use Rattle.polymatroid.specs.Sets.{Coalition}
use Rattle.polymatroid.specs.Realising.{Realises}
use Rattle.polymatroid.specs.Inequality.{LawfulAt, Lawful}
use Rattle.polymatroid.specs.declared.inequality.Inequality.{Inequality}
use Rattle.polymatroid.specs.declared.inequality.Inequality.TheVariants.{Monotonicity, Submodularity, Correctness, Privacy}
use Rattle.record.specs.declared.faults.Reason.{Reason}
use Rattle.record.specs.declared.faults.Refusal.{Refusal}
use Rattle.record.specs.Faults.{outside, unnamed}
use Rattle.record.specs.Reading.{and_then, refused_as, Bytes}
use Rattle.record.proofs.Trying.{refused_as_ok}
use Rattle.access.specs.Table.{qualified_by, contains_one, table_of}
use Rattle.access.specs.Format.{listed_in, LawfulSets, encode_sets}
use Rattle.access.proofs.Minimal.{qualified_coalition}
use Rattle.access.proofs.Records.{read_exactly}
use Rattle.certificate.specs.Format.{Certificate, LawfulCertificate}
use Rattle.certificate.specs.Judge.{judge}
use Rattle.certificate.specs.Theorems.{Right, TrustedBound}
use Rattle.certificate.proofs.Exact.{takes_exactly, trusted}
use Rattle.verdict.specs.Bounds.{lower_bound_in, ProvedExactly, Bounds}

-- ---- what is said of an access structure depends on its coalitions alone
module _ (n : ℕ) (q r : ℕ → Bool) (same : (a : ℕ) → Coalition n a → q a ≡ r a) where
  lawful_at : (m : ℤ) (i : Inequality) → LawfulAt n q m i → LawfulAt n r m i
  lawful_at m (Monotonicity a b) l = l
  lawful_at m (Submodularity a b) l = l
  lawful_at m (Correctness a) l = (l.0, sym (same a l.0) ∙ l.1, l.2)
  lawful_at m (Privacy a) l = (l.0, sym (same a l.0) ∙ l.1, l.2)

  lawful_same : (c : Certificate) → LawfulCertificate n q c → LawfulCertificate n r c
  lawful_same c l = record {
    head = l.head;
    number = l.number;
    lawful = All-weaker (Lawful n q) (Lawful n r) (λ x. lawful_at x.multiplier x.inequality) c.lines l.lawful;
    stored = l.stored;
  }

  right_same : (bytes : List ℕ) (count total : ℕ) (c : Certificate) → Right n q bytes count total c → Right n r bytes count total c
  right_same bytes count total c g = record {
    lawful = lawful_same c g.lawful;
    matches = g.matches;
    recorded = g.recorded;
    its_count = g.its_count;
    its_total = g.its_total;
  }

  realises_same : (h : ℕ → ℕ) → Realises n r h → Realises n q h
  realises_same h g = record {
    sized = g.sized;
    correct = λ a k e. g.correct a k (sym (same a k) ∙ e);
    private = λ a k e. g.private a k (sym (same a k) ∙ e);
  }

  trusted_same : (count total : ℕ) → TrustedBound n q count total → TrustedBound n r count total
  trusted_same count total t = record {
    counted = t.counted;
    weighed = t.weighed;
    binds = λ h p g. t.binds h p (realises_same h g);
  }

-- ---- the two records
module _ (structure certificate : List ℕ) (count total : ℕ) where
  -- the minimal qualified sets behind an answer: they are recorded, and by their table the judgement gives the answer
  record Behind (n : ℕ) (sets : List ℕ) : Type 0 where
    lawful : LawfulSets n sets
    recorded : structure ≡ encode_sets n sets
    judged : judge n (qualified_by (table_of sets)) certificate ≡ Ok (count, total)

  answer : Result (ℕ × List ℕ) Reason → Result (ℕ × ℕ) Refusal
  answer r = and_then (refused_as unnamed (refused_as outside (and_then {A = ℕ × List ℕ} {B = ℕ × List Bool} r (λ l. Ok (l.0, table_of l.1))))) (λ s. refused_as unnamed (judge s.0 (qualified_by s.1) certificate))

  listed : (r : Result (ℕ × List ℕ) Reason) → listed_in structure ≡ r → answer r ≡ Ok (count, total) → (n : ℕ) × ((sets : List ℕ) × Behind n sets)
  unfolding answer
  listed (Ok l) e p =
      let x = read_exactly structure l.0 l.1 in
      (l.0, (l.1, record { lawful = x.lawful e; recorded = x.encoded e; judged = refused_as_ok unnamed (judge l.0 (qualified_by (table_of l.1)) certificate) (count, total) p }))
  listed (Err e) q p = cc

  behind : lower_bound_in structure certificate ≡ Ok (count, total) → (n : ℕ) × ((sets : List ℕ) × Behind n sets)
  unfolding answer
  behind p = listed (listed_in structure) refl p

  answered : (n : ℕ) (sets : List ℕ) → Behind n sets → lower_bound_in structure certificate ≡ Ok (count, total)
  unfolding answer
  answered n sets b = ap answer ((read_exactly structure n sets).taken b.lawful b.recorded) ∙ ap (refused_as unnamed) b.judged

  table_says : (n : ℕ) (sets : List ℕ) → LawfulSets n sets → (a : ℕ) → Coalition n a → qualified_by (table_of sets) a ≡ contains_one sets a
  table_says n sets l a k = qualified_coalition n sets a l.few k

  pub proved_exactly : Bytes certificate → ProvedExactly structure certificate count total
  proved_exactly bs = record {
    proved = λ p.
        let b = behind p in
        let n = b.0 in
        let sets = b.1.0 in
        let l = b.1.1.lawful in
        let g = (takes_exactly n (qualified_by (table_of sets)) certificate count total bs).right b.1.1.judged in (
          n,
          (
            sets,
            (
              g.0,
              record {
                lawful = l;
                recorded = b.1.1.recorded;
                right = right_same n (qualified_by (table_of sets)) (contains_one sets) (table_says n sets l) certificate count total g.0 g.1;
              },
            ),
          ),
        );
    given = λ n sets c g.
        answered n sets (record {
          lawful = g.lawful;
          recorded = g.recorded;
          judged = (takes_exactly n (qualified_by (table_of sets)) certificate count total bs).taken c
              (right_same n (contains_one sets) (qualified_by (table_of sets)) (λ a k. sym (table_says n sets g.lawful a k)) certificate count total c g.right);
        });
  }

  pub bounds : lower_bound_in structure certificate ≡ Ok (count, total) → Bounds structure count total
  bounds p =
      let b = behind p in
      let n = b.0 in
      let sets = b.1.0 in
      let l = b.1.1.lawful in (
        n,
        (
          sets,
          record {
            lawful = l;
            recorded = b.1.1.recorded;
            trusted = trusted_same n (qualified_by (table_of sets)) (contains_one sets) (table_says n sets l) count total
                (trusted n (qualified_by (table_of sets)) certificate count total b.1.1.judged);
          },
        ),
      )
