-- Certificates come out of exactly their own records, are taken exactly when right, and then bind. Assumes nothing.
use Rattle.std.proofs.Common.{◌≡◌, ℕ, ◌+◌, ◌*◌, ◌^◌, ◌<◌, ◌⊎◌, ◌≤◌, Bool, true, eqb, List, ◌++◌, Decides, drop, ℤ, pos, negsuc, Ok, Result, sym, refl, ap, ◌∙◌, subst, ap₂, inl, inr, arith}
use Rattle.std.specs.List.{flat_map}
use Rattle.std.proofs.lemmas.List.{take-append-drop}
use Rattle.std.proofs.ByRecursion.{All-drop}
use Rattle.std.proofs.lemmas.Bool.Decides.{Decides-eqb, Decides-or, Decides-below_and}
use Rattle.std.proofs.lemmas.Bool.{eqb-true, eq-eqb, cases_eq, false≢true}
use Rattle.polymatroid.specs.Sets.{InGround}
use Rattle.polymatroid.specs.Tests.{all_below}
use Rattle.polymatroid.specs.Certificate.{sum_to, combination, coefficient, Matches, LowerBound}
use Rattle.polymatroid.specs.declared.inequality.Line.{Line}
use Rattle.polymatroid.proofs.Soundness.{sound}
use Rattle.record.specs.declared.faults.Reason.TheVariants.{SumDiffers}
use Rattle.record.specs.declared.faults.RecordFault.{RecordFault}
use Rattle.record.specs.Faults.{outside}
use Rattle.record.specs.Reading.{tried, and_then, refused_as, Bytes}
use Rattle.record.proofs.Trying.{tried_ok, tried_pass, and_then_ok, refused_as_ok, ok_same}
use Rattle.certificate.specs.declared.header.Header.{Header}
use Rattle.certificate.specs.Lines.{lines_of, encode_line}
use Rattle.certificate.specs.Format.{Certificate, certificate, weight_of, total_of, header_in, header_of, certificate_of, LawfulHeader, LawfulCertificate, encode_header, encode}
use Rattle.certificate.specs.Judge.{equal, agree_at, agree, claimed, adds_up, judge}
use Rattle.certificate.specs.Theorems.{HeadsReadExactly, ReadsExactly, Right, TakesExactly, Trusted}
use Rattle.certificate.proofs.Lawful.{LinesRead, lines_read}
use Rattle.certificate.proofs.Written.{lines_taken}
use Rattle.certificate.proofs.Heads.{HeadRead, head_read, head_lawful, head_encoded, head_taken, head_dropped}

-- ---- a certificate that is read
module _ (n : ℕ) (qualified : ℕ → Bool) (bytes : List ℕ) where
  -- head and lines apart
  Parts : Certificate → Type 0
  Parts c = HeadRead n bytes × (header_in n bytes ≡ c.header) × LinesRead n qualified c.header.lines (drop (2 * n + 9) bytes) c.lines

  parts : (c : Certificate) → certificate_of n qualified bytes ≡ Ok c → Parts c
  unfolding Parts
  parts c p =
      let a = and_then_ok (refused_as outside (header_of n bytes)) (λ h. and_then (lines_of n qualified h.lines 1 (drop (2 * n + 9) bytes)) (λ ls. Ok (certificate h ls))) c p in
      let b = and_then_ok (lines_of n qualified a.0.lines 1 (drop (2 * n + 9) bytes)) (λ ls. Ok (certificate a.0 ls)) c a.2 in
      let h = head_read n bytes a.0 (refused_as_ok outside (header_of n bytes) a.0 a.1) in
      subst Parts (ok_same (certificate a.0 b.0) c b.2) (h.0, h.1, lines_read n qualified a.0.lines 1 (drop (2 * n + 9) bytes) b.0 b.1)

  certificate_lawful : (c : Certificate) → Bytes bytes → Parts c → LawfulCertificate n qualified c
  unfolding Parts
  certificate_lawful c bs p = record {
    head = subst (LawfulHeader n) p.1 (head_lawful n bytes p.0 bs);
    number = p.2.number;
    lawful = p.2.lawful;
    stored = p.2.ranged;
  }

  certificate_encoded : (c : Certificate) → Bytes bytes → Parts c → bytes ≡ encode c
  unfolding Parts
  certificate_encoded c bs p =
      sym (take-append-drop (2 * n + 9) bytes) ∙
      ap₂ (λ (u v : List ℕ). u ++ v)
      (sym (head_encoded n bytes p.0 bs) ∙ ap encode_header p.1)
      (p.2.encoded (All-drop (λ b. b < 256) (2 * n + 9) bytes bs))

-- ---- the record of a lawful certificate
module _ (n : ℕ) (qualified : ℕ → Bool) where
  after_head : (bytes rest : List ℕ) (h : Header) (ls : List Line) → header_of n bytes ≡ Ok h → drop (2 * n + 9) bytes ≡ rest → lines_of n qualified h.lines 1 rest ≡ Ok ls →
      certificate_of n qualified bytes ≡ Ok (certificate h ls)
  after_head bytes rest h ls p d q = rw (p, d, q)

  certificate_read : (c : Certificate) → LawfulCertificate n qualified c → certificate_of n qualified (encode c) ≡ Ok c
  certificate_read c l =
      let rest : List ℕ = flat_map encode_line c.lines in
      after_head (encode c) rest c.header c.lines
      (head_taken n c.header l.head rest) (head_dropped n c.header l.head rest)
      (ap (λ k. lines_of n qualified k 1 rest) (sym l.number) ∙ lines_taken n qualified 1 c.lines l.lawful l.stored)

pub reads_exactly : ReadsExactly
reads_exactly n qualified bytes c bs = record {
  lawful = λ p. certificate_lawful n qualified bytes c bs (parts n qualified bytes c p);
  encoded = λ p. certificate_encoded n qualified bytes c bs (parts n qualified bytes c p);
  read = λ l e. ap (certificate_of n qualified) e ∙ certificate_read n qualified c l;
}

pub heads_read_exactly : HeadsReadExactly
heads_read_exactly n bytes h bs = record {
  lawful = λ p. let r = head_read n bytes h p in subst (LawfulHeader n) r.1 (head_lawful n bytes r.0 bs);
  encoded = λ p. let r = head_read n bytes h p in sym (head_encoded n bytes r.0 bs) ∙ ap encode_header r.1;
  read = λ l e.
      ap (header_of n) (sym (take-append-drop (2 * n + 9) bytes) ∙ ap (λ (x : List ℕ). x ++ drop (2 * n + 9) bytes) e) ∙
      head_taken n h l (drop (2 * n + 9) bytes);
}

-- ---- the sum
pub equal_true : (y z : ℤ) → equal y z ≡ true → y ≡ z
equal_true (pos a) (pos b) p = ap pos (eqb-true a b p)
equal_true (pos a) (negsuc b) p = absurd (false≢true p)
equal_true (negsuc a) (pos b) p = absurd (false≢true p)
equal_true (negsuc a) (negsuc b) p = ap negsuc (eqb-true a b p)

pub equal_same : (z : ℤ) → equal z z ≡ true
equal_same (pos a) = eq-eqb a a refl
equal_same (negsuc a) = eq-eqb a a refl

equal_decides : (y z : ℤ) → Decides (equal y z) (y ≡ z)
equal_decides y z = (equal_true y z, λ e. ap (equal y) (sym e) ∙ equal_same y)

module _ (n : ℕ) (f g : ℕ → ℤ) where
  agree_decides : Decides (agree n f g) ((s : ℕ) → InGround n s → (s ≡ 0) ⊎ (f s ≡ g s))
  agree_decides =
      Decides-below_and (agree_at f g) (λ s. (s ≡ 0) ⊎ (f s ≡ g s)) (λ k. all_below k (agree_at f g))
      (λ s. Decides-or (eqb s 0) (equal (f s) (g s)) (Decides-eqb s 0) (equal_decides (f s) (g s))) refl (λ _. refl) (2 ^ (n + 1))

  pub agree_each : agree n f g ≡ true → (s : ℕ) → 1 ≤ s → InGround n s → f s ≡ g s
  agree_each p s one ground = elim (agree_decides.0 p s ground) [ inl z ↦ absurd (omega arith) | inr e ↦ e ]

  pub agree_from : ((s : ℕ) → 1 ≤ s → InGround n s → f s ≡ g s) → agree n f g ≡ true
  agree_from h = agree_decides.1 (λ s l. elim (cases_eq s 0) [ inl z ↦ inl z | inr ne ↦ inr (h s (omega arith) l) ])

-- ---- taken exactly when right
module _ (n : ℕ) (qualified : ℕ → Bool) where
  matches : (c : Certificate) → c.header.participants ≡ n → adds_up c ≡ true → Matches n (weight_of c.header) c.header.count c.lines
  matches c e p = subst (λ k. Matches k (weight_of c.header) c.header.count c.lines) e
      (agree_each c.header.participants (coefficient (combination c.lines)) (claimed c.header) p)

  sum_matches : (c : Certificate) → c.header.participants ≡ n → Matches n (weight_of c.header) c.header.count c.lines → adds_up c ≡ true
  sum_matches c e m =
      agree_from c.header.participants (coefficient (combination c.lines)) (claimed c.header)
      (subst (λ k. Matches k (weight_of c.header) c.header.count c.lines) (sym e) m)

  last : Certificate → Result (ℕ × ℕ) RecordFault
  last c = tried (adds_up c) (outside SumDiffers) (Ok (c.header.count, total_of c.header))

  -- what is behind an answer
  Behind : List ℕ → ℕ → ℕ → Certificate → Type 0
  Behind bytes count total c =
      (certificate_of n qualified bytes ≡ Ok c) × (adds_up c ≡ true) × (count ≡ c.header.count) × (total ≡ total_of c.header)

  behind : (bytes : List ℕ) (count total : ℕ) → judge n qualified bytes ≡ Ok (count, total) → (c : Certificate) × Behind bytes count total c
  unfolding last Behind
  behind bytes count total p =
      let a = and_then_ok (certificate_of n qualified bytes) last (count, total) p in
      let b = tried_ok (adds_up a.0) (outside SumDiffers) (Ok (a.0.header.count, total_of a.0.header)) (count, total) a.2 in
      let e : ◌≡◌ {A = ℕ × ℕ} (a.0.header.count, total_of a.0.header) (count, total) = ok_same _ _ b.1 in
      (a.0, (a.1, b.0, sym (ap (λ (x : ℕ × ℕ). x.0) e), sym (ap (λ (x : ℕ × ℕ). x.1) e)))

  right : (bytes : List ℕ) (count total : ℕ) → Bytes bytes → judge n qualified bytes ≡ Ok (count, total) → (c : Certificate) × Right n qualified bytes count total c
  unfolding Behind
  right bytes count total bs p =
      let b = behind bytes count total p in
      let c : Certificate = b.0 in
      let l : LawfulCertificate n qualified c = (reads_exactly n qualified bytes c bs).lawful b.1.0 in (
        c,
        record {
          lawful = l;
          matches = matches c l.head.participants b.1.1;
          recorded = (reads_exactly n qualified bytes c bs).encoded b.1.0;
          its_count = b.1.2;
          its_total = b.1.3;
        },
      )

  taken : (bytes : List ℕ) (count total : ℕ) (c : Certificate) → Right n qualified bytes count total c → judge n qualified bytes ≡ Ok (count, total)
  unfolding last
  taken bytes count total c r =
      ap (λ x. and_then x last) (ap (certificate_of n qualified) r.recorded ∙ certificate_read n qualified c r.lawful) ∙
      tried_pass (adds_up c) (outside SumDiffers) (Ok (c.header.count, total_of c.header)) (sum_matches c r.lawful.head.participants r.matches) ∙
      ap₂ (λ x y. Ok (x, y)) (sym r.its_count) (sym r.its_total)

pub takes_exactly : TakesExactly
takes_exactly n qualified bytes count total bs = record {
  right = right n qualified bytes count total bs;
  taken = taken n qualified bytes count total;
}

-- ---- what is taken binds
pub trusted : Trusted
unfolding Behind Parts
trusted n qualified bytes count total p =
    let b = behind n qualified bytes count total p in
    let c : Certificate = b.0 in
    let q = parts n qualified bytes c b.1.0 in
    let h : HeadRead n bytes = q.0 in
    let participants : c.header.participants ≡ n = ap (λ (g : Header). g.participants) (sym q.1) in
    let total-is : total_of c.header ≡ total = sym b.1.3 in
    let bound : LowerBound n qualified c.header.count (total_of c.header) =
    subst (λ k. LowerBound n qualified c.header.count k) (ap (λ k. sum_to k (weight_of c.header)) (sym participants))
    (sound n qualified (weight_of c.header) c.header.count c.lines h.some q.2.lawful (matches n qualified c participants b.1.1)) in
    record {
      counted = subst (λ k. 1 ≤ k) (sym b.1.2) (subst (λ (g : Header). 1 ≤ g.count) q.1 h.counted);
      weighed = subst (λ k. 1 ≤ k) (sym b.1.3) (subst (λ g. 1 ≤ total_of g) q.1 h.weighed);
      binds = subst (λ k. LowerBound n qualified k total) (sym b.1.2) (subst (λ k. LowerBound n qualified c.header.count k) total-is bound);
    }
