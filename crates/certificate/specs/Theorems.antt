-- What is true of certificate records. Assumes nothing.
use Rattle.std.specs.Prelude.{◌≡◌, ℕ, ◌+◌, ◌*◌, ◌≤◌, Bool, List, take, Ok}
use Rattle.polymatroid.specs.Certificate.{Matches, LowerBound}
use Rattle.record.specs.Reading.{Bytes}
use Rattle.certificate.specs.declared.header.Header.{Header}
use Rattle.certificate.specs.Format.{Certificate, weight_of, total_of, header_of, certificate_of, LawfulHeader, LawfulCertificate, encode_header, encode}
use Rattle.certificate.specs.Judge.{judge}

-- a certificate comes out of exactly one record, its own, and only if it is lawful
pub record ReadExactly (n : ℕ) (qualified : ℕ → Bool) (bytes : List ℕ) (c : Certificate) : Type 0 where
  pub lawful : certificate_of n qualified bytes ≡ Ok c → LawfulCertificate n qualified c
  pub encoded : certificate_of n qualified bytes ≡ Ok c → bytes ≡ encode c
  pub read : LawfulCertificate n qualified c → bytes ≡ encode c → certificate_of n qualified bytes ≡ Ok c

abbrev pub ReadsExactly : Type 0
ReadsExactly = (n : ℕ) (qualified : ℕ → Bool) (bytes : List ℕ) (c : Certificate) → Bytes bytes → ReadExactly n qualified bytes c

-- a head comes out of exactly the records that begin with its own bytes, and only if it is lawful
pub record HeadReadExactly (n : ℕ) (bytes : List ℕ) (h : Header) : Type 0 where
  pub lawful : header_of n bytes ≡ Ok h → LawfulHeader n h
  pub encoded : header_of n bytes ≡ Ok h → take (2 * n + 9) bytes ≡ encode_header h
  pub read : LawfulHeader n h → take (2 * n + 9) bytes ≡ encode_header h → header_of n bytes ≡ Ok h

abbrev pub HeadsReadExactly : Type 0
HeadsReadExactly = (n : ℕ) (bytes : List ℕ) (h : Header) → Bytes bytes → HeadReadExactly n bytes h

-- a lawful certificate whose lines add up to its claim
pub record Right (n : ℕ) (qualified : ℕ → Bool) (bytes : List ℕ) (count total : ℕ) (c : Certificate) : Type 0 where
  pub lawful : LawfulCertificate n qualified c
  pub matches : Matches n (weight_of c.header) c.header.count c.lines
  pub recorded : bytes ≡ encode c
  pub its_count : count ≡ c.header.count
  pub its_total : total ≡ total_of c.header

-- a record is taken, with its count and its weight total, exactly if it is the record of such a certificate
pub record TakenExactly (n : ℕ) (qualified : ℕ → Bool) (bytes : List ℕ) (count total : ℕ) : Type 0 where
  pub right : judge n qualified bytes ≡ Ok (count, total) → (c : Certificate) × Right n qualified bytes count total c
  pub taken : (c : Certificate) → Right n qualified bytes count total c → judge n qualified bytes ≡ Ok (count, total)

abbrev pub TakesExactly : Type 0
TakesExactly = (n : ℕ) (qualified : ℕ → Bool) (bytes : List ℕ) (count total : ℕ) → Bytes bytes → TakenExactly n qualified bytes count total

-- what is taken is a lower bound
pub record TrustedBound (n : ℕ) (qualified : ℕ → Bool) (count total : ℕ) : Type 0 where
  pub counted : 1 ≤ count
  pub weighed : 1 ≤ total
  pub binds : LowerBound n qualified count total

abbrev pub Trusted : Type 0
Trusted = (n : ℕ) (qualified : ℕ → Bool) (bytes : List ℕ) (count total : ℕ) → judge n qualified bytes ≡ Ok (count, total) → TrustedBound n qualified count total
