-- A head that is read is lawful and stands in the bytes; the bytes of a lawful head are read as that head.
-- Assumes nothing.
use Rattle.std.proofs.Common.{◌↔◌, ◌≡◌, ℕ, zero, suc, ◌+◌, ◌-◌, ◌*◌, ◌<◌, ◌≤◌, List, [], ◌∷◌, ◌++◌, length, get_or, take, drop, replicate, Ok, sym, refl, ap, ◌∙◌, subst, ap₂, inl, inr, arith, take-add}
use Rattle.std.specs.List.{AllByRecursion, flat_map}
use Rattle.std.proofs.lemmas.List.{get_or-replicate, get_or_past, length-append, length-replicate, length-take-le, length-drop, get_or-append_right, take_at, drop_at, append_assoc, take-append-drop, ext_get_or, get_or-drop}
use Rattle.std.proofs.lemmas.Nat.{div-add-mod'}
use Rattle.std.proofs.lemmas.List.Elements.{All-replicate, recursion_from_All}
use Rattle.std.proofs.ByRecursion.{All-append, All-drop}
use Rattle.std.proofs.lemmas.Bool.Decides.{Decides-eqb, Decides-ltb}
use Rattle.std.proofs.lemmas.Bool.{cases_lt, leb-true, le-leb}
use Rattle.record.specs.Reading.{byte, two, four, two_bytes, four_bytes, Bytes}
use Rattle.record.proofs.Trying.{tried_says, ok_says, holds_decides, between_decides, marked_decides}
use Rattle.record.proofs.Stored.{two_stored, four_stored, four_back, byte_small, first_bytes, two_small, four_small, two_drop, four_drop}
use Rattle.certificate.specs.declared.header.Header.{Header}
use Rattle.certificate.specs.Format.{total_of, numbers, header_in, header_of, LawfulHeader, encode_header}

-- ---- numbers of two bytes each
pub length_numbers : (k : ℕ) (bytes : List ℕ) → length (numbers k bytes) ≡ k
length_numbers zero bytes = refl
length_numbers (suc k) bytes = ap suc (length_numbers k (drop 2 bytes))

numbers_small : (k : ℕ) (bytes : List ℕ) → Bytes bytes → AllByRecursion (λ w. w < 65536) (numbers k bytes)
numbers_small zero bytes bs = tt
numbers_small (suc k) bytes bs = (two_small bytes 0 bs, numbers_small k (drop 2 bytes) (All-drop (λ b. b < 256) 2 bytes bs))

numbers_stored : (k : ℕ) (bytes : List ℕ) → 2 * k ≤ length bytes → Bytes bytes → flat_map two_bytes (numbers k bytes) ≡ take (2 * k) bytes
numbers_stored zero bytes l bs = refl
numbers_stored (suc k) bytes l bs =
    let this = two_stored (byte bytes 0) (byte bytes 1) (byte_small bytes 0 bs) (byte_small bytes 1 bs) in
    let more = numbers_stored k (drop 2 bytes) (omega (arith, length-drop 2 bytes)) (All-drop (λ b. b < 256) 2 bytes bs) in
    let front = first_bytes 2 bytes (omega arith) in
    let whole = take-add 2 (2 * k) bytes in
    let far : 2 + 2 * k ≡ 2 * suc k = omega arith in
    cc

pub length_stored : (ws : List ℕ) → length (flat_map two_bytes ws) ≡ 2 * length ws
length_stored [] = refl
length_stored (w ∷ ws) = let ih = length_stored ws in omega arith

numbers_back : (ws rest : List ℕ) → numbers (length ws) (flat_map two_bytes ws ++ rest) ≡ ws
numbers_back [] rest = refl
numbers_back (w ∷ ws) rest = ap₂ (λ (u : ℕ) (v : List ℕ). u ∷ v) (div-add-mod' w 256) (numbers_back ws rest)

-- ---- the weights, and 0 beyond them
zeros_small : (k : ℕ) → AllByRecursion (λ w. w < 65536) (replicate k 0)
zeros_small k = recursion_from_All (λ w. w < 65536) (replicate k 0) (All-replicate (λ w. w < 65536) k 0 (omega arith))

zeros_at : (k i : ℕ) → ◌≡◌ {A = ℕ} (get_or (replicate k 0) i 0) 0
zeros_at k i = elim (cases_lt i k) [
  | inl l ↦ get_or-replicate k i 0 0 l
  | inr g ↦ get_or_past (replicate k 0) i 0 (omega (arith, length-replicate {A = ℕ} k 0))
]

module _ (n : ℕ) (bytes : List ℕ) where
  pub weights_sized : n ≤ 7 → length (numbers n bytes ++ replicate (7 - n) 0) ≡ 7
  weights_sized few = length-append (numbers n bytes) (replicate (7 - n) 0) ∙ omega (arith, length_numbers n bytes, length-replicate {A = ℕ} (7 - n) 0)

  pub weights_beyond : (i : ℕ) → n ≤ i → get_or (numbers n bytes ++ replicate (7 - n) 0) i 0 ≡ 0
  weights_beyond i l = get_or-append_right (numbers n bytes) (replicate (7 - n) 0) n i 0 (length_numbers n bytes) l ∙ zeros_at (7 - n) (i - n)

-- ---- the last six bytes
six_encoded : (ys : List ℕ) → 6 ≤ length ys → Bytes ys → four_bytes (four ys 0) ++ two_bytes (two ys 4) ≡ take 6 ys
six_encoded ys l bs =
    ap₂ (λ (u v : List ℕ). u ++ v)
    (four_stored (byte ys 0) (byte ys 1) (byte ys 2) (byte ys 3) (byte_small ys 0 bs) (byte_small ys 1 bs) (byte_small ys 2 bs) (byte_small ys 3 bs))
    (two_stored (byte ys 4) (byte ys 5) (byte_small ys 4 bs) (byte_small ys 5 bs)) ∙
    sym (first_bytes 6 ys l)

-- ---- what a head that is read says
pub record HeadRead (n : ℕ) (bytes : List ℕ) : Type 0 where
  pub mark : (byte bytes 0 ≡ 0x43) × (byte bytes 1 ≡ 0x45)
  pub participants : byte bytes 2 ≡ n
  pub some : 1 ≤ n
  pub few : n ≤ 7
  pub long : 2 * n + 9 ≤ length bytes
  pub weighed : 1 ≤ total_of (header_in n bytes)
  pub counted : 1 ≤ (header_in n bytes).count
  pub lined : 1 ≤ (header_in n bytes).lines
  pub lines_few : (header_in n bytes).lines ≤ 4096

module _ (n : ℕ) (bytes : List ℕ) where
  -- the tests one after another
  head_says : (h : Header) → (header_of n bytes ≡ Ok h) ↔ ((2 ≤ length bytes) × (((byte bytes 0 ≡ 0x43) × (byte bytes 1 ≡ 0x45)) × ((3 ≤ length bytes) × (
      ((1 ≤ byte bytes 2) × (byte bytes 2 ≤ 7)) × ((byte bytes 2 ≡ n) × ((2 * n + 9 ≤ length bytes) × ((0 < total_of (header_in n bytes)) × (
      (1 ≤ (header_in n bytes).count) × (((1 ≤ (header_in n bytes).lines) × ((header_in n bytes).lines ≤ 4096)) × (header_in n bytes ≡ h))))))))))
  head_says h =
      tried_says _ _ _ h (holds_decides 2 bytes) (
      tried_says _ _ _ h (marked_decides bytes 0x43 0x45) (
      tried_says _ _ _ h (holds_decides 3 bytes) (
      tried_says _ _ _ h (between_decides 1 (byte bytes 2) 7) (
      tried_says _ _ _ h (Decides-eqb (byte bytes 2) n) (
      tried_says _ _ _ h (holds_decides (2 * n + 9) bytes) (
      tried_says _ _ _ h (Decides-ltb 0 (total_of (header_in n bytes))) (
      tried_says _ _ _ h (leb-true 1 (header_in n bytes).count, le-leb 1 (header_in n bytes).count) (
      tried_says _ _ _ h (between_decides 1 (header_in n bytes).lines 4096) (
      ok_says (header_in n bytes) h)))))))))

  pub head_read : (h : Header) → header_of n bytes ≡ Ok h → HeadRead n bytes × (header_in n bytes ≡ h)
  head_read h p =
      let (_, (mark, (_, (between, (here, (long, (weighed, (counted, (lined, same))))))))) = (head_says h).0 p in (
        record {
          mark = mark;
          participants = here;
          some = omega (arith, between);
          few = omega (arith, between);
          long = long;
          weighed = weighed;
          counted = counted;
          lined = lined.0;
          lines_few = lined.1;
        },
        same,
      )

  -- the same tests, passed
  pub head_passed : HeadRead n bytes → header_of n bytes ≡ Ok (header_in n bytes)
  head_passed r =
      let between : (1 ≤ byte bytes 2) × (byte bytes 2 ≤ 7) = (omega (arith, r.some, r.participants), omega (arith, r.few, r.participants)) in
      (head_says (header_in n bytes)).1
      (omega (arith, r.long), (r.mark, (omega (arith, r.long), (between, (r.participants, (r.long, (r.weighed, (r.counted, ((r.lined, r.lines_few), refl)))))))))

  pub head_lawful : HeadRead n bytes → Bytes bytes → LawfulHeader n (header_in n bytes)
  head_lawful r bs = record {
    participants = refl;
    some = r.some;
    few = r.few;
    sized = weights_sized n (drop 3 bytes) r.few;
    small = All-append (λ w. w < 65536) (numbers n (drop 3 bytes)) (replicate (7 - n) 0) (numbers_small n (drop 3 bytes) (All-drop (λ b. b < 256) 3 bytes bs)) (zeros_small (7 - n));
    beyond = weights_beyond n (drop 3 bytes);
    weighed = r.weighed;
    counted = r.counted;
    count_small = four_small bytes (2 * n + 3) bs;
    lined = r.lined;
    lines_few = r.lines_few;
  }

-- ---- the bytes of a head that is read
body_encoded : (n : ℕ) (xs : List ℕ) → 2 * n + 6 ≤ length xs → Bytes xs →
    flat_map two_bytes (numbers n xs) ++ (four_bytes (four xs (2 * n)) ++ two_bytes (two xs (2 * n + 4))) ≡ take (2 * n + 6) xs
body_encoded n xs l bs =
    let weights = numbers_stored n xs (omega arith) bs in
    let count = four_drop (2 * n) xs 0 (2 * n) (omega arith) in
    let lines = two_drop (2 * n) xs 4 (2 * n + 4) refl in
    let six = six_encoded (drop (2 * n) xs) (omega (arith, length-drop (2 * n) xs)) (All-drop (λ b. b < 256) (2 * n) xs bs) in
    let whole = take-add (2 * n) 6 xs in
    cc

pub head_encoded : (n : ℕ) (bytes : List ℕ) → HeadRead n bytes → Bytes bytes → encode_header (header_in n bytes) ≡ take (2 * n + 9) bytes
head_encoded n bytes r bs =
    let weights = take_at (numbers n (drop 3 bytes)) (replicate (7 - n) 0) n (length_numbers n (drop 3 bytes)) in
    let count = four_drop 3 bytes (2 * n) (2 * n + 3) (omega arith) in
    let lines = two_drop 3 bytes (2 * n + 4) (2 * n + 7) (omega arith) in
    let body = body_encoded n (drop 3 bytes) (omega (arith, r.long, length-drop 3 bytes)) (All-drop (λ b. b < 256) 3 bytes bs) in
    let front = first_bytes 3 bytes (omega (arith, r.long)) in
    let whole = take-add 3 (2 * n + 6) bytes in
    let far : 3 + (2 * n + 6) ≡ 2 * n + 9 = omega arith in
    cc

-- ---- the bytes of a lawful head
module _ (n : ℕ) (h : Header) (lawful : LawfulHeader n h) (rest : List ℕ) where
  weights : List ℕ
  weights = take n h.weights

  ending : List ℕ
  ending = (four_bytes h.count ++ two_bytes h.lines) ++ rest

  behind : List ℕ
  behind = flat_map two_bytes weights ++ ending

  length_weights : length weights ≡ n
  unfolding weights
  length_weights = length-take-le n h.weights (omega (arith, lawful.sized, lawful.few))

  length_front : length (flat_map two_bytes weights) ≡ 2 * n
  length_front = length_stored weights ∙ ap (λ k. 2 * k) length_weights

  ends : drop (2 * n) behind ≡ ending
  unfolding behind
  ends = drop_at (flat_map two_bytes weights) ending (2 * n) length_front

  count_back : four behind (2 * n) ≡ h.count
  unfolding ending
  count_back =
      sym (four_drop (2 * n) behind 0 (2 * n) (omega arith)) ∙ ap (λ (ys : List ℕ). four ys 0) ends ∙ four_back h.count

  lines_back : two behind (2 * n + 4) ≡ h.lines
  unfolding ending
  lines_back =
      sym (two_drop (2 * n) behind 4 (2 * n + 4) refl) ∙ ap (λ (ys : List ℕ). two ys 4) ends ∙ div-add-mod' h.lines 256

  zeros_beyond : replicate (7 - n) 0 ≡ drop n h.weights
  zeros_beyond =
      ext_get_or 0 (replicate (7 - n) 0) (drop n h.weights)
      (length-replicate (7 - n) 0 ∙ ap (λ k. k - n) (sym lawful.sized) ∙ sym (length-drop n h.weights))
      (λ i l. zeros_at (7 - n) i ∙ sym (get_or-drop n h.weights i 0 ∙ lawful.beyond (n + i) (omega arith)))

  weights_back : numbers n behind ++ replicate (7 - n) 0 ≡ h.weights
  unfolding weights behind
  weights_back =
      ap₂ (λ (u v : List ℕ). u ++ v)
      (ap (λ k. numbers k behind) (sym length_weights) ∙ numbers_back weights ending) zeros_beyond ∙
      take-append-drop n h.weights

  bytes : List ℕ
  bytes = 0x43 ∷ 0x45 ∷ h.participants ∷ behind

  header_back : header_in n bytes ≡ h
  unfolding bytes
  header_back =
      ap₂ (λ p (ws : List ℕ). record { participants = p; weights = ws; count = four bytes (2 * n + 3); lines = two bytes (2 * n + 7) }) (sym lawful.participants) weights_back ∙
      ap₂ (λ c l. record { participants = h.participants; weights = h.weights; count = c; lines = l })
      (sym (four_drop 3 bytes (2 * n) (2 * n + 3) (omega arith)) ∙ count_back)
      (sym (two_drop 3 bytes (2 * n + 4) (2 * n + 7) (omega arith)) ∙ lines_back)

  written_read : HeadRead n bytes
  unfolding bytes behind ending
  written_read = record {
    mark = (refl, refl);
    participants = lawful.participants;
    some = lawful.some;
    few = lawful.few;
    long = omega (arith, length_front, length-append (flat_map two_bytes weights) ending);
    weighed = subst (λ g. 1 ≤ total_of g) (sym header_back) lawful.weighed;
    counted = subst (λ (g : Header). 1 ≤ g.count) (sym header_back) lawful.counted;
    lined = subst (λ (g : Header). 1 ≤ g.lines) (sym header_back) lawful.lined;
    lines_few = subst (λ (g : Header). g.lines ≤ 4096) (sym header_back) lawful.lines_few;
  }

  same_bytes : encode_header h ++ rest ≡ bytes
  unfolding bytes behind ending weights
  same_bytes =
      ap (λ (ys : List ℕ). 0x43 ∷ 0x45 ∷ h.participants ∷ ys)
      (ap (λ k. (flat_map two_bytes (take k h.weights) ++ (four_bytes h.count ++ two_bytes h.lines)) ++ rest) lawful.participants ∙
      append_assoc (flat_map two_bytes (take n h.weights)) (four_bytes h.count ++ two_bytes h.lines) rest)

  pub head_taken : header_of n (encode_header h ++ rest) ≡ Ok h
  head_taken = ap (header_of n) same_bytes ∙ head_passed n bytes written_read ∙ ap Ok header_back

  pub head_dropped : drop (2 * n + 9) (encode_header h ++ rest) ≡ rest
  unfolding weights
  head_dropped =
      let front : length (flat_map two_bytes (take h.participants h.weights)) ≡ 2 * n =
      ap (λ k. length (flat_map two_bytes (take k h.weights))) lawful.participants ∙ length_front in
      drop_at (encode_header h) rest (2 * n + 9)
      (omega (arith, front, length-append (flat_map two_bytes (take h.participants h.weights)) (four_bytes h.count ++ two_bytes h.lines)))
