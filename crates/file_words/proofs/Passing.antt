-- Over told contents, where reading has not failed, there is one way to go through the files that words name.
use Rattle.std.proofs.Common.{◌≡◌, ◌∙◌, sym, refl, ap, subst, ℕ, ◌+◌, ◌<◌, ◌≤◌, List, [], ◌∷◌, ◌++◌, length, Option, Some, None, Ok, Err, IsSomeAnd, ◌⊎◌, inl, inr, arith}
use Rattle.circuit_spec.specs.Network.{Topology}
use Rattle.io_edges.specs.Counts.{Rose}
use Rattle.io_edges.specs.Reads.{Store, Contents, Holds, IsAbsent, IsOver}
use Rattle.nml_elements.specs.declared.elements.Domain.{Domain}
use Rattle.replies.specs.declared.reply.Reply.{Reply}
use Rattle.file_words.specs.declared.reading.FileWord.{FileWord}
use Rattle.replies.specs.Through.{Each, Ends}
use Rattle.file_words.specs.Reading.{AreRead, IsRead, IsRefused, IsMissing, IsTooBig, StopsReading, IsDomain, IsFaulty, AreDomains, OverFiles}
use Rattle.file_words.proofs.Own.{Each-append}
use Rattle.file_words.proofs.Stores.{IsAbsent-wide}

abbrev pub SameStatus : Reply → Reply → Type 0
SameStatus a b = a.status ≡ b.status

-- ---- going through a list, told from its front

-- an item ends the run, or all have partners, and Next is of these
abbrev Through : {A B : Type 0} → (A → B → Type 0) → (ℕ → A → Reply → Type 0) → List A → (List B → Reply → Type 0) → Reply → Type 0
Through {B = B} R EndsAt items Next reply = Ends R EndsAt items reply ⊎ ((partners : List B) × Each R items partners × Next partners reply)

abbrev Goes : {A B : Type 0} → (A → B → Type 0) → (ℕ → A → Reply → Type 0) → ℕ → List A → (List B → Reply → Type 0) → Reply → Type 0
Goes R EndsAt n [] Next a = Next [] a
Goes {B = B} R EndsAt n (x ∷ xs) Next a = EndsAt n x a ⊎ ((y : B) × R x y × Goes {B = B} R EndsAt (n + 1) xs (λ ys. Next (y ∷ ys)) a)

goes-ends : {A B : Type 0} (R : A → B → Type 0) (EndsAt : ℕ → A → Reply → Type 0) (n m : ℕ) (earlier : List A) (ys : List B) (item : A) (later : List A) (Next : List B → Reply → Type 0) (a : Reply)
    → m ≡ n + length earlier → Each R earlier ys → EndsAt m item a → Goes R EndsAt n (earlier ++ item ∷ later) Next a
goes-ends R EndsAt n m [] [] item later Next a at e ends = let l : m ≡ n = omega arith in inl (subst (λ (k : ℕ). EndsAt k item a) l ends)
goes-ends R EndsAt n m [] (y ∷ ys) item later Next a at e ends = absurd e
goes-ends R EndsAt n m (x ∷ xs) [] item later Next a at e ends = absurd e
goes-ends R EndsAt n m (x ∷ xs) (y ∷ ys) item later Next a at e ends =
    let l : m ≡ n + 1 + length xs = omega arith in
    inr (y, e.0, goes-ends R EndsAt (n + 1) m xs ys item later (λ zs. Next (y ∷ zs)) a l e.1 ends)

goes-all : {A B : Type 0} (R : A → B → Type 0) (EndsAt : ℕ → A → Reply → Type 0) (n : ℕ) (xs : List A) (ys : List B) (Next : List B → Reply → Type 0) (a : Reply)
    → Each R xs ys → Next ys a → Goes R EndsAt n xs Next a
goes-all R EndsAt n [] [] Next a e next = next
goes-all R EndsAt n [] (y ∷ ys) Next a e next = absurd e
goes-all R EndsAt n (x ∷ xs) [] Next a e next = absurd e
goes-all R EndsAt n (x ∷ xs) (y ∷ ys) Next a e next = inr (y, e.0, goes-all R EndsAt (n + 1) xs ys (λ zs. Next (y ∷ zs)) a e.1 next)

goes : {A B : Type 0} (R : A → B → Type 0) (EndsAt : ℕ → A → Reply → Type 0) (xs : List A) (Next : List B → Reply → Type 0) (a : Reply) → Through R EndsAt xs Next a → Goes R EndsAt 1 xs Next a
goes R EndsAt xs Next a (inl e) =
    let l : length e.earlier + 1 ≡ 1 + length e.earlier = omega arith in
    subst (λ (zs : List _). Goes R EndsAt 1 zs Next a) (sym e.split) (goes-ends R EndsAt 1 (length e.earlier + 1) e.earlier e.partners e.item e.later Next a l e.passed e.ends)
goes R EndsAt xs Next a (inr p) = goes-all R EndsAt 1 xs p.0 Next a p.1 p.2

-- an item has one partner at most, or ends the run, with one status
record Settles {A B : Type 0} (R : A → B → Type 0) (EndsAt : ℕ → A → Reply → Type 0) : Type 0 where
  one : (x : A) (y z : B) → R x y → R x z → y ≡ z
  apart : (n : ℕ) (x : A) (y : B) (a : Reply) → EndsAt n x a → R x y → ⊥
  ends : (n : ℕ) (x : A) (a b : Reply) → EndsAt n x a → EndsAt n x b → SameStatus a b

goes-one : {A B : Type 0} (R : A → B → Type 0) (EndsAt : ℕ → A → Reply → Type 0) (n : ℕ) (xs : List A) (Next : List B → Reply → Type 0) (a b : Reply)
    → Settles R EndsAt → ((ys : List B) → Next ys a → Next ys b → SameStatus a b) → Goes R EndsAt n xs Next a → Goes R EndsAt n xs Next b → SameStatus a b
goes-one R EndsAt n [] Next a b s next p q = next [] p q
goes-one R EndsAt n (x ∷ xs) Next a b s next (inl p) (inl q) = s.ends n x a b p q
goes-one R EndsAt n (x ∷ xs) Next a b s next (inl p) (inr q) = absurd (s.apart n x q.0 a p q.1)
goes-one R EndsAt n (x ∷ xs) Next a b s next (inr p) (inl q) = absurd (s.apart n x p.0 b q p.1)
goes-one R EndsAt n (x ∷ xs) Next a b s next (inr p) (inr q) =
    goes-one R EndsAt (n + 1) xs (λ ys. Next (p.0 ∷ ys)) a b s (λ ys. next (p.0 ∷ ys)) p.2
    (subst (λ (y : _). Goes R EndsAt (n + 1) xs (λ ys. Next (y ∷ ys)) b) (sym (s.one x p.0 q.0 p.1 q.1)) q.2)

-- where all items have partners, the reply is to those
goes-to : {A B : Type 0} (R : A → B → Type 0) (EndsAt : ℕ → A → Reply → Type 0) (n : ℕ) (xs : List A) (ys : List B) (Next : List B → Reply → Type 0) (a : Reply)
    → Settles R EndsAt → Each R xs ys → Goes R EndsAt n xs Next a → Next ys a
goes-to R EndsAt n [] [] Next a s e p = p
goes-to R EndsAt n [] (y ∷ ys) Next a s e p = absurd e
goes-to R EndsAt n (x ∷ xs) [] Next a s e p = absurd e
goes-to R EndsAt n (x ∷ xs) (y ∷ ys) Next a s e (inl p) = absurd (s.apart n x y a p e.0)
goes-to R EndsAt n (x ∷ xs) (y ∷ ys) Next a s e (inr p) =
    goes-to R EndsAt (n + 1) xs ys (λ zs. Next (y ∷ zs)) a s e.1 (subst (λ (z : _). Goes R EndsAt (n + 1) xs (λ zs. Next (z ∷ zs)) a) (s.one x p.0 y p.1 e.0) p.2)

through-one : {A B : Type 0} (R : A → B → Type 0) (EndsAt : ℕ → A → Reply → Type 0) (xs : List A) (Next : List B → Reply → Type 0) (a b : Reply)
    → Settles R EndsAt → ((ys : List B) → Next ys a → Next ys b → SameStatus a b) → Through R EndsAt xs Next a → Through R EndsAt xs Next b → SameStatus a b
through-one R EndsAt xs Next a b s next p q = goes-one R EndsAt 1 xs Next a b s next (goes R EndsAt xs Next a p) (goes R EndsAt xs Next b q)

-- ---- reading

abbrev Told : Type 0
Told = List ℕ → Option (List ℕ)

holds : (before : Store) (told : Told) (word : FileWord) (bytes : List ℕ) → before.contents ≡ Some told → IsRead before word bytes → told word.name ≡ Some bytes
holds before told word bytes e read = subst (λ (c : Contents). Holds c word.name bytes) e read.holds

absent : (before after : Store) (told : Told) (word : FileWord) (a : Reply) → before.contents ≡ Some told → IsMissing before after word a → told word.name ≡ None
absent before after told word a e m = subst (λ (c : Contents). IsAbsent c word.name (Rose before.faults after.faults)) e m.cause

over : (before after : Store) (told : Told) (word : FileWord) (a : Reply) → before.contents ≡ Some told → IsTooBig before after word a → IsSomeAnd (told word.name) (λ bytes. word.limit < length bytes)
over before after told word a e m = subst (λ (c : Contents). IsOver c word.name word.limit) e m.cause

over-read : (o : Option (List ℕ)) (limit : ℕ) (bytes : List ℕ) → o ≡ Some bytes → length bytes ≤ limit → IsSomeAnd o (λ bytes. limit < length bytes) → ⊥
over-read o limit bytes e le more = let lt : limit < length bytes = subst (λ (o : Option (List ℕ)). IsSomeAnd o (λ bytes. limit < length bytes)) e more in omega arith

over-none : (o : Option (List ℕ)) (limit : ℕ) → o ≡ None → IsSomeAnd o (λ bytes. limit < length bytes) → ⊥
over-none o limit e more = subst (λ (o : Option (List ℕ)). IsSomeAnd o (λ bytes. limit < length bytes)) e more

some-one : (o : Option (List ℕ)) (x y : List ℕ) → o ≡ Some x → o ≡ Some y → x ≡ y
some-one o x y p q = cc

some-none : (o : Option (List ℕ)) (x : List ℕ) → o ≡ Some x → o ≡ None → ⊥
some-none o x p q = cc

pub by-lines : (a b c d : Reply) → a ≡ c → b ≡ d → c.status ≡ d.status → SameStatus a b
by-lines a b c d p q s = ap (λ (x : Reply). x.status) p ∙ s ∙ sym (ap (λ (x : Reply). x.status) q)

refused-apart : (before after : Store) (told : Told) (word : FileWord) (bytes : List ℕ) (a : Reply) → before.contents ≡ Some told → ¬ Rose before.faults after.faults → IsRefused before after word a → IsRead before word bytes → ⊥
refused-apart before after told word bytes a e calm (inl m) read = some-none (told word.name) bytes (holds before told word bytes e read) (absent before after told word a e m)
refused-apart before after told word bytes a e calm (inr (inl m)) read = calm m.cause
refused-apart before after told word bytes a e calm (inr (inr m)) read = over-read (told word.name) word.limit bytes (holds before told word bytes e read) read.within (over before after told word a e m)

refused-one : (before after : Store) (told : Told) (word : FileWord) (a b : Reply) → before.contents ≡ Some told → ¬ Rose before.faults after.faults → IsRefused before after word a → IsRefused before after word b → SameStatus a b
refused-one before after told word a b e calm (inl m) (inl n) = by-lines a b _ _ m.is n.is refl
refused-one before after told word a b e calm (inl m) (inr (inl n)) = absurd (calm n.cause)
refused-one before after told word a b e calm (inl m) (inr (inr n)) = absurd (over-none (told word.name) word.limit (absent before after told word a e m) (over before after told word b e n))
refused-one before after told word a b e calm (inr (inl m)) q = absurd (calm m.cause)
refused-one before after told word a b e calm (inr (inr m)) (inl n) = absurd (over-none (told word.name) word.limit (absent before after told word b e n) (over before after told word a e m))
refused-one before after told word a b e calm (inr (inr m)) (inr (inl n)) = absurd (calm n.cause)
refused-one before after told word a b e calm (inr (inr m)) (inr (inr n)) = by-lines a b _ _ m.is n.is refl

reading-settles : (before after : Store) (told : Told) → before.contents ≡ Some told → ¬ Rose before.faults after.faults → Settles (IsRead before) (λ _. IsRefused before after)
reading-settles before after told e calm = record {
  one = λ x y z p q. some-one (told x.name) y z (holds before told x y e p) (holds before told x z e q);
  apart = λ n x y a p q. refused-apart before after told x y a e calm p q;
  ends = λ n x a b p q. refused-one before after told x a b e calm p q;
}

-- ---- parsing

domain-one : (bytes : List ℕ) (x y : Domain) → IsDomain bytes x → IsDomain bytes y → x ≡ y
domain-one bytes x y p q = let o : Ok x ≡ Ok y = sym p ∙ q in cc

faulty-apart-at : (n : ℕ) (bytes : List ℕ) (x : Domain) (a : Reply) → IsFaulty n bytes a → IsDomain bytes x → ⊥
faulty-apart-at n bytes x a f p = let o : Err f.fault ≡ Ok x = sym f.found ∙ p in cc

parsing-settles : Settles IsDomain IsFaulty
parsing-settles = record {
  one = domain-one;
  apart = faulty-apart-at;
  ends = λ n x a b p q. by-lines a b _ _ p.is q.is refl;
}

-- items have one list of partners
each-one : {A B : Type 0} (R : A → B → Type 0) (EndsAt : ℕ → A → Reply → Type 0) (xs : List A) (ys zs : List B) → Settles R EndsAt → Each R xs ys → Each R xs zs → ys ≡ zs
each-one R EndsAt [] [] [] s p q = refl
each-one R EndsAt [] [] (z ∷ zs) s p q = absurd q
each-one R EndsAt [] (y ∷ ys) zs s p q = absurd p
each-one R EndsAt (x ∷ xs) [] zs s p q = absurd p
each-one R EndsAt (x ∷ xs) (y ∷ ys) [] s p q = absurd q
each-one R EndsAt (x ∷ xs) (y ∷ ys) (z ∷ zs) s p q =
    let head : y ≡ z = s.one x y z p.0 q.0 in
    let tail : ys ≡ zs = each-one R EndsAt xs ys zs s p.1 q.1 in
    cc

-- items that all have partners do not end the run
each-apart : {A B : Type 0} (R : A → B → Type 0) (EndsAt : ℕ → A → Reply → Type 0) (xs : List A) (ys : List B) (a : Reply) → Settles R EndsAt → Each R xs ys → Ends R EndsAt xs a → ⊥
each-apart R EndsAt xs ys a s each ends = goes-to R EndsAt 1 xs ys (λ T b. ⊥) a s each (goes R EndsAt xs (λ T b. ⊥) a (inl ends))

ends-one : {A B : Type 0} (R : A → B → Type 0) (EndsAt : ℕ → A → Reply → Type 0) (xs : List A) (a b : Reply) → Settles R EndsAt → Ends R EndsAt xs a → Ends R EndsAt xs b → SameStatus a b
ends-one R EndsAt xs a b s p q = through-one R EndsAt xs (λ ys c. ⊥) a b s (λ ys x y. absurd x) (inl p) (inl q)

-- ---- the files of words

-- bytes that all have domains have no fault
pub faulty-apart : (contents : List (List ℕ)) (T : List Domain) (a : Reply) → Each IsDomain contents T → Ends IsDomain IsFaulty contents a → ⊥
faulty-apart contents T a each ends = each-apart IsDomain IsFaulty contents T a parsing-settles each ends

-- bytes have one list of domains
pub domains-one : (contents : List (List ℕ)) (S T : List Domain) → Each IsDomain contents S → Each IsDomain contents T → S ≡ T
domains-one contents S T p q = each-one IsDomain IsFaulty contents S T parsing-settles p q

-- words that all are read stop no reading
stops-apart : (before after : Store) (told : Told) (own words : List FileWord) (held contents : List (List ℕ)) (a : Reply) → before.contents ≡ Some told → ¬ Rose before.faults after.faults
    → AreRead before own held → AreRead before words contents → StopsReading before after (own ++ words) a → ⊥
stops-apart before after told own words held contents a e calm p q stops =
    each-apart (IsRead before) (λ _. IsRefused before after) (own ++ words) (held ++ contents) a (reading-settles before after told e calm) (Each-append (IsRead before) own words held contents p q) stops

read-one : (before after : Store) (told : Told) (words : List FileWord) (xs ys : List (List ℕ)) → before.contents ≡ Some told → ¬ Rose before.faults after.faults → AreRead before words xs → AreRead before words ys → xs ≡ ys
read-one before after told words xs ys e calm p q = each-one (IsRead before) (λ _. IsRefused before after) words xs ys (reading-settles before after told e calm) p q

-- what follows once all words are read
abbrev AfterReading : (List (List ℕ) → Topology → Reply → Type 0) → List (List ℕ) → List (List ℕ) → Reply → Type 0
AfterReading Next held contents a = Ends IsDomain IsFaulty contents a ⊎ ((T : Topology) × Each IsDomain contents T × Next held T a)

-- the reply is to the bytes of the words, where all words are read
pub over-contents : (before after : Store) (told : Told) (own words : List FileWord) (Next : List (List ℕ) → Topology → Reply → Type 0) (held contents : List (List ℕ)) (a : Reply)
    → before.contents ≡ Some told → ¬ Rose before.faults after.faults → AreRead before own held → AreRead before words contents → OverFiles before after own words Next a → AfterReading Next held contents a
over-contents before after told own words Next held contents a e calm p q (inl (inl stops)) = absurd (stops-apart before after told own words held contents a e calm p q stops)
over-contents before after told own words Next held contents a e calm p q (inl (inr f)) =
    inl (subst (λ (cs : List (List ℕ)). Ends IsDomain IsFaulty cs a) (read-one before after told words f.read.files contents e calm f.all.contents q) f.faulty)
over-contents before after told own words Next held contents a e calm p q (inr o) =
    inr (
      o.sources.domains,
      subst (λ (cs : List (List ℕ)). Each IsDomain cs o.sources.domains) (read-one before after told words o.are.domains.contents contents e calm o.are.domains.read q) o.are.domains.parsed,
      subst (λ (hs : List (List ℕ)). Next hs o.sources.domains a) (read-one before after told own o.sources.held held e calm o.are.kept p) o.next,
    )

-- the reply is to the domains of the files, where all files have one
pub over-domains : (before after : Store) (told : Told) (own words : List FileWord) (Next : List (List ℕ) → Topology → Reply → Type 0) (held : List (List ℕ)) (T : Topology) (a : Reply)
    → before.contents ≡ Some told → ¬ Rose before.faults after.faults → AreRead before own held → AreDomains before words T → OverFiles before after own words Next a → Next held T a
over-domains before after told own words Next held T a e calm p are o = elim (over-contents before after told own words Next held are.contents a e calm p are.read o) [
  | inl ends ↦ absurd (faulty-apart are.contents T a are.parsed ends)
  | inr next ↦ subst (λ (S : Topology). Next held S a) (domains-one are.contents next.0 T next.1 are.parsed) next.2
]

after-one : (Next : List (List ℕ) → Topology → Reply → Type 0) (held contents : List (List ℕ)) (a b : Reply) → ((T : Topology) → Next held T a → Next held T b → SameStatus a b)
    → AfterReading Next held contents a → AfterReading Next held contents b → SameStatus a b
after-one Next held contents a b next (inl p) (inl q) = ends-one IsDomain IsFaulty contents a b parsing-settles p q
after-one Next held contents a b next (inl p) (inr q) = absurd (faulty-apart contents q.0 a q.1 p)
after-one Next held contents a b next (inr p) (inl q) = absurd (faulty-apart contents p.0 b p.1 q)
after-one Next held contents a b next (inr p) (inr q) = next p.0 p.2 (subst (λ (S : Topology). Next held S b) (domains-one contents q.0 p.0 q.1 p.1) q.2)

-- what all words hold, where the run does not stop at one
record Holding (before : Store) (own words : List FileWord) : Type 0 where
  held : List (List ℕ)
  contents : List (List ℕ)
  kept : AreRead before own held
  read : AreRead before words contents

holding : (before after : Store) (own words : List FileWord) (Next : List (List ℕ) → Topology → Reply → Type 0) (a : Reply) → OverFiles before after own words Next a
    → StopsReading before after (own ++ words) a ⊎ Holding before own words
holding before after own words Next a (inl (inl stops)) = inl stops
holding before after own words Next a (inl (inr f)) = inr (record { held = f.read.own; contents = f.read.files; kept = f.all.held; read = f.all.contents })
holding before after own words Next a (inr o) = inr (record { held = o.sources.held; contents = o.are.domains.contents; kept = o.are.kept; read = o.are.domains.read })

all-one : (before after : Store) (told : Told) (own words : List FileWord) (Next : List (List ℕ) → Topology → Reply → Type 0) (a b : Reply) → before.contents ≡ Some told → ¬ Rose before.faults after.faults
    → ((held : List (List ℕ)) (T : Topology) → Next held T a → Next held T b → SameStatus a b) → OverFiles before after own words Next a → OverFiles before after own words Next b → Holding before own words → SameStatus a b
all-one before after told own words Next a b e calm next p q h = after-one Next h.held h.contents a b (next h.held)
    (over-contents before after told own words Next h.held h.contents a e calm h.kept h.read p) (over-contents before after told own words Next h.held h.contents b e calm h.kept h.read q)

-- all replies that may be have one status
pub over-files : (before after : Store) (told : Told) (own words : List FileWord) (Next : List (List ℕ) → Topology → Reply → Type 0) (a b : Reply) → before.contents ≡ Some told → ¬ Rose before.faults after.faults
    → ((held : List (List ℕ)) (T : Topology) → Next held T a → Next held T b → SameStatus a b) → OverFiles before after own words Next a → OverFiles before after own words Next b → SameStatus a b
over-files before after told own words Next a b e calm next p q = by-words (holding before after own words Next a p) (holding before after own words Next b q)
  where
    by-words : StopsReading before after (own ++ words) a ⊎ Holding before own words → StopsReading before after (own ++ words) b ⊎ Holding before own words → SameStatus a b
    by-words (inl s) (inl t) = ends-one (IsRead before) (λ _. IsRefused before after) (own ++ words) a b (reading-settles before after told e calm) s t
    by-words (inl s) (inr h) = all-one before after told own words Next a b e calm next p q h
    by-words (inr h) t = all-one before after told own words Next a b e calm next p q h

-- ---- where reading stops

-- the item after those that have partners ends the run, or has one
goes-at : {A B : Type 0} (R : A → B → Type 0) (EndsAt : ℕ → A → Reply → Type 0) (n : ℕ) (earlier : List A) (ys : List B) (item : A) (later : List A) (Next : List B → Reply → Type 0) (a : Reply)
    → Settles R EndsAt → Each R earlier ys → Goes R EndsAt n (earlier ++ item ∷ later) Next a → EndsAt (n + length earlier) item a ⊎ ((y : B) × R item y)
goes-at R EndsAt n [] [] item later Next a s e (inl p) = let l : n ≡ n + 0 = omega arith in inl (subst (λ (k : ℕ). EndsAt k item a) l p)
goes-at R EndsAt n [] [] item later Next a s e (inr p) = inr (p.0, p.1)
goes-at R EndsAt n [] (y ∷ ys) item later Next a s e p = absurd e
goes-at R EndsAt n (x ∷ xs) [] item later Next a s e p = absurd e
goes-at R EndsAt n (x ∷ xs) (y ∷ ys) item later Next a s e (inl p) = absurd (s.apart n x y a p e.0)
goes-at R EndsAt n (x ∷ xs) (y ∷ ys) item later Next a s e (inr p) =
    by-rest (goes-at R EndsAt (n + 1) xs ys item later (λ zs. Next (p.0 ∷ zs)) a s e.1 p.2)
  where
    by-rest : EndsAt (n + 1 + length xs) item a ⊎ ((z : _) × R item z) → EndsAt (n + length (x ∷ xs)) item a ⊎ ((z : _) × R item z)
    by-rest (inl q) = let l : n + 1 + length xs ≡ n + length (x ∷ xs) = omega arith in inl (subst (λ (k : ℕ). EndsAt k item a) l q)
    by-rest (inr q) = inr q

-- an item among those that have partners has one
each-at : {A B : Type 0} (R : A → B → Type 0) (earlier : List A) (item : A) (later : List A) (zs : List B) → Each R (earlier ++ item ∷ later) zs → (y : B) × R item y
each-at R [] item later [] e = absurd e
each-at R [] item later (z ∷ zs) e = (z, e.0)
each-at R (x ∷ xs) item later [] e = absurd e
each-at R (x ∷ xs) item later (z ∷ zs) e = each-at R xs item later zs e.1

-- a word that cannot be read, behind words that are, is refused
pub refused-at : (before after : Store) (told : Told) (own words : List FileWord) (Next : List (List ℕ) → Topology → Reply → Type 0) (a : Reply) (earlier : List FileWord) (word : FileWord) (later : List FileWord) (contents : List (List ℕ))
    → before.contents ≡ Some told → ¬ Rose before.faults after.faults → own ++ words ≡ earlier ++ word ∷ later → AreRead before earlier contents → ((bytes : List ℕ) → ¬ IsRead before word bytes)
    → OverFiles before after own words Next a → IsRefused before after word a
refused-at before after told own words Next a earlier word later contents e calm split read unread p = by-words (holding before after own words Next a p)
  where
    by-words : StopsReading before after (own ++ words) a ⊎ Holding before own words → IsRefused before after word a
    by-words (inl stops) = elim (goes-at (IsRead before) (λ _. IsRefused before after) 1 earlier contents word later (λ _ _. ⊥) a (reading-settles before after told e calm) read
        (subst (λ (ws : List FileWord). Goes (IsRead before) (λ _. IsRefused before after) 1 ws (λ _ _. ⊥) a) split (goes (IsRead before) (λ _. IsRefused before after) (own ++ words) (λ _ _. ⊥) a (inl stops)))) [
          | inl refused ↦ refused
          | inr some ↦ absurd (unread some.0 some.1)
        ]
    by-words (inr h) =
        let some = each-at (IsRead before) earlier word later (h.held ++ h.contents)
        (subst (λ (ws : List FileWord). Each (IsRead before) ws (h.held ++ h.contents)) split (Each-append (IsRead before) own words h.held h.contents h.kept h.read)) in
        absurd (unread some.0 some.1)

-- a file that is missing is not read, nor is one that is too big
pub missing-unread : (before : Store) (told : Told) (word : FileWord) → before.contents ≡ Some told → IsAbsent before.contents word.name ⊥ → (bytes : List ℕ) → ¬ IsRead before word bytes
missing-unread before told word e missing = λ bytes read. some-none (told word.name) bytes (holds before told word bytes e read) (subst (λ (c : Contents). IsAbsent c word.name ⊥) e missing)

pub big-unread : (before : Store) (told : Told) (word : FileWord) → before.contents ≡ Some told → IsOver before.contents word.name word.limit → (bytes : List ℕ) → ¬ IsRead before word bytes
big-unread before told word e big = λ bytes read. over-read (told word.name) word.limit bytes (holds before told word bytes e read) read.within (subst (λ (c : Contents). IsOver c word.name word.limit) e big)

-- over told contents, where reading has not failed, a missing file is told as missing, and one that is too big as that
pub missing-told : (before after : Store) (told : Told) (word : FileWord) (a : Reply) → before.contents ≡ Some told → ¬ Rose before.faults after.faults → IsAbsent before.contents word.name ⊥
    → IsRefused before after word a → IsMissing before after word a
missing-told before after told word a e calm missing (inl m) = m
missing-told before after told word a e calm missing (inr (inl m)) = absurd (calm m.cause)
missing-told before after told word a e calm missing (inr (inr m)) = absurd (over-none (told word.name) word.limit (subst (λ (c : Contents). IsAbsent c word.name ⊥) e missing) (over before after told word a e m))

pub big-told : (before after : Store) (told : Told) (word : FileWord) (a : Reply) → before.contents ≡ Some told → ¬ Rose before.faults after.faults → IsOver before.contents word.name word.limit
    → IsRefused before after word a → IsTooBig before after word a
big-told before after told word a e calm big (inl m) = absurd (over-none (told word.name) word.limit (absent before after told word a e m) (subst (λ (c : Contents). IsOver c word.name word.limit) e big))
big-told before after told word a e calm big (inr (inl m)) = absurd (calm m.cause)
big-told before after told word a e calm big (inr (inr m)) = m

-- where the contents are told, a missing file is missing without a fault
pub missing-calm : (before after : Store) (word : FileWord) (a : Reply) → ¬ Rose before.faults after.faults → IsMissing before after word a → IsAbsent before.contents word.name ⊥
missing-calm before after word a calm m = IsAbsent-wide before.contents word.name (Rose before.faults after.faults) ⊥ calm m.cause
