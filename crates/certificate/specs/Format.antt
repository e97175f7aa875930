-- The certificate record: mark, number of participants, weights, count, number of lines, the lines. Assumes nothing.
use Rattle.std.specs.Prelude.{◌≡◌, ℕ, zero, suc, ◌+◌, ◌-◌, ◌*◌, ◌^◌, ◌<◌, ◌≤◌, Bool, ◌&&◌, List, [], ◌∷◌, ◌++◌, length, take, drop, replicate, Ok, Result, ◌==◌, nat_le, nat_lt, slice_index}
use Rattle.std.specs.List.{AllByRecursion, flat_map}
use Rattle.polymatroid.specs.Certificate.{sum_to}
use Rattle.polymatroid.specs.Inequality.{Lawful}
use Rattle.polymatroid.specs.declared.inequality.Line.{Line}
use Rattle.record.specs.declared.faults.Reason.{Reason}
use Rattle.record.specs.declared.faults.Reason.TheVariants.{CutShort, WrongMark, OutOfRange, ParticipantsDiffer}
use Rattle.record.specs.declared.faults.RecordFault.{RecordFault}
use Rattle.record.specs.Faults.{outside}
use Rattle.record.specs.Reading.{tried, and_then, refused_as, holds, byte, two, four, marked, two_bytes, four_bytes}
use Rattle.certificate.specs.declared.header.Header.{Header}
use Rattle.certificate.specs.Lines.{multiplier_limit, InRange, lines_of, encode_line}

abbrev pub certificate_mark : List ℕ
certificate_mark = 0x43 ∷ 0x45 ∷ []

-- a head and the lines behind it
pub record Certificate : Type 0 where
  pub header : Header
  pub lines : List Line

-- the weight of participant i, from 1, and the weight total
abbrev pub weight_of : Header → ℕ → ℕ
weight_of h zero = 0
weight_of h (suc k) = slice_index h.weights k

abbrev pub total_of : Header → ℕ
total_of h = sum_to h.participants (weight_of h)

-- k numbers of two bytes each
abbrev pub numbers : ℕ → List ℕ → List ℕ
numbers zero bytes = []
numbers (suc k) bytes = two bytes 0 ∷ numbers k (drop 2 bytes)

-- the fields of a record of n participants, at their offsets
abbrev pub header_in : ℕ → List ℕ → Header
header_in n bytes = record {
  participants = n;
  weights = numbers n (drop 3 bytes) ++ replicate (7 - n) 0;
  count = four bytes (2 * n + 3);
  lines = two bytes (2 * n + 7);
}

-- the head of a record, or the one reason
abbrev pub header_of : ℕ → List ℕ → Result Header Reason
header_of n bytes =
    tried (holds 2 bytes) CutShort (
    tried (marked bytes certificate_mark) WrongMark (
    tried (holds 3 bytes) CutShort (
    tried (nat_le 1 (byte bytes 2) && nat_le (byte bytes 2) 7) OutOfRange (
    tried (byte bytes 2 == n) ParticipantsDiffer (
    tried (holds (2 * n + 9) bytes) CutShort (
    tried (nat_lt 0 (total_of (header_in n bytes))) OutOfRange (
    tried (nat_le 1 (header_in n bytes).count) OutOfRange (
    tried (nat_le 1 (header_in n bytes).lines && nat_le (header_in n bytes).lines 4096) OutOfRange (
    Ok (header_in n bytes))))))))))

abbrev pub certificate : Header → List Line → Certificate
certificate h ls = record { header = h; lines = ls }

-- the certificate of a record, or the one fault
abbrev pub certificate_of : ℕ → (ℕ → Bool) → List ℕ → Result Certificate RecordFault
certificate_of n qualified bytes =
    and_then (refused_as outside (header_of n bytes)) (λ h.
    and_then (lines_of n qualified h.lines 1 (drop (2 * n + 9) bytes)) (λ ls.
    Ok (certificate h ls)))

-- which heads, and which certificates, a record for n participants may hold
pub record LawfulHeader (n : ℕ) (h : Header) : Type 0 where
  pub participants : h.participants ≡ n
  pub some : 1 ≤ n
  pub few : n ≤ 7
  pub sized : length h.weights ≡ 7
  pub small : AllByRecursion (λ w. w < 65536) h.weights
  pub beyond : (k : ℕ) → n ≤ k → slice_index h.weights k ≡ 0
  pub weighed : 1 ≤ total_of h
  pub counted : 1 ≤ h.count
  pub count_small : h.count < 2 ^ 32
  pub lined : 1 ≤ h.lines
  pub lines_few : h.lines ≤ 4096

pub record LawfulCertificate (n : ℕ) (qualified : ℕ → Bool) (c : Certificate) : Type 0 where
  pub head : LawfulHeader n c.header
  pub number : length c.lines ≡ c.header.lines
  pub lawful : AllByRecursion (Lawful n qualified) c.lines
  pub stored : AllByRecursion (λ l. InRange multiplier_limit l.multiplier) c.lines

-- the record of a certificate
abbrev pub encode_header : Header → List ℕ
encode_header h =
    certificate_mark ++ (h.participants ∷ (flat_map two_bytes (take h.participants h.weights) ++ (four_bytes h.count ++ two_bytes h.lines)))

abbrev pub encode : Certificate → List ℕ
encode c = encode_header c.header ++ flat_map encode_line c.lines
