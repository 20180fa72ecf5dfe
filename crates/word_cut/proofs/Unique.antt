-- Some bytes have one list of words, or one refusal, and never both.
use Rattle.std.proofs.Common.{◌≡◌, ◌≢◌, ℕ, ◌+◌, Bool, true, false, not, ◌||◌, nat_eq, leb, List, [], ◌∷◌, ◌++◌, length, refl, sym, ap, subst, ◌∙◌, ◌⊎◌, inl, inr, arith}
use Rattle.std.specs.List.{list_all}
use Rattle.std.proofs.lemmas.Bool.{and_parts, false≢true, or_parts}
use Rattle.std.proofs.lemmas.Bool.Decides.{nat_tests}
use Rattle.std.proofs.lemmas.List.{append-nil}
use Rattle.word_cut.specs.declared.word.Word.{Word}
use Rattle.word_cut.specs.declared.word.WordKind.{WordKind}
use Rattle.word_cut.specs.declared.cutting.CutRefused.{CutRefused}
use Rattle.word_cut.specs.declared.cutting.CutRefused.TheVariants as refusals
use Rattle.word_cut.specs.Texts.{kind_of, is_letter, is_digit, is_space, is_single_sign, is_double_sign, is_word, is_name, is_name_byte, is_number, is_long_name, is_long_number}
use Rattle.word_cut.specs.Words.{is_gap, line_feeds, IsLongest, Next, Leaves, IsCut, IsReached, IsRefused, BeginsNoWord, Begins}
use Rattle.word_cut.specs.Fronts.{StopsAt, goes_on_gap}
use Rattle.word_cut.proofs.Longest.{sign_of_word, no_sign, letter_no_number}

-- ---- gaps

-- a gap that stops goes no further
no_further : (c : Bool) (b : ℕ) (more rest other : List ℕ) → is_gap c [] other ≡ true → StopsAt goes_on_gap other → other ≡ b ∷ (more ++ rest) → is_gap c (b ∷ more) rest ≡ true → ⊥
no_further true b more rest other g s e h =
    let P : List ℕ → Type 0 = λ xs. is_gap true [] xs ≡ true in
    false≢true (subst P e g)
no_further false b more rest other g s e h =
    let P : List ℕ → Type 0 = StopsAt goes_on_gap in
    let t : (nat_eq b 35 || is_space b) ≡ false = subst P e s in
    let hash = (or_parts (nat_eq b 35) (is_space b) t).0 in
    let space = (or_parts (nat_eq b 35) (is_space b) t).1 in
    false≢true (rw (hash, space) at h)

-- behind a byte of a gap a comment is open where the byte was #
gap_next : (b : ℕ) (more rest : List ℕ) → is_gap false (b ∷ more) rest ≡ true → is_gap (nat_eq b 35) more rest ≡ true
gap_next b more rest h = by_case (nat_eq b 35) refl
  where
    by_case : (z : Bool) → nat_eq b 35 ≡ z → is_gap (nat_eq b 35) more rest ≡ true
    by_case true z = rw z (rw z at h)
    by_case false z = rw z (and_parts (is_space b) (is_gap false more rest) (rw z at h)).1

gap_unique : (c : Bool) (g1 r1 g2 r2 : List ℕ) → is_gap c g1 r1 ≡ true → is_gap c g2 r2 ≡ true → StopsAt goes_on_gap r1 → StopsAt goes_on_gap r2 → g1 ++ r1 ≡ g2 ++ r2 → (g1 ≡ g2) × (r1 ≡ r2)
gap_unique c [] r1 [] r2 h k s t e = (refl, e)
gap_unique c [] r1 (b ∷ g2) r2 h k s t e = absurd (no_further c b g2 r2 r1 h s e k)
gap_unique c (b ∷ g1) r1 [] r2 h k s t e = absurd (no_further c b g1 r1 r2 k t (sym e) h)
gap_unique true (b ∷ g1) r1 (d ∷ g2) r2 h k s t e =
    let first : b ≡ d = cc in
    let rest : g1 ++ r1 ≡ g2 ++ r2 = cc in
    let u = gap_unique (not (nat_eq b 10)) g1 r1 g2 r2 h (rw first k) s t rest in
    (cc (u.0, first), u.1)
gap_unique false (b ∷ g1) r1 (d ∷ g2) r2 h k s t e =
    let first : b ≡ d = cc in
    let rest : g1 ++ r1 ≡ g2 ++ r2 = cc in
    let u = gap_unique (nat_eq b 35) g1 r1 g2 r2 (gap_next b g1 r1 h) (rw first (gap_next d g2 r2 k)) s t rest in
    (cc (u.0, first), u.1)

-- ---- words

-- of two ways to part one list, the front of one begins with the front of the other
parts : (a b c d : List ℕ) → a ++ b ≡ c ++ d → ((more : List ℕ) × (c ≡ a ++ more) × (b ≡ more ++ d)) ⊎ ((more : List ℕ) × (a ≡ c ++ more) × (d ≡ more ++ b))
parts [] b c d e = inl (c, refl, e)
parts (x ∷ a) b [] d e = inr (x ∷ a, refl, sym e)
parts (x ∷ a) b (y ∷ c) d e =
    let first : x ≡ y = cc in
    let rest : a ++ b ≡ c ++ d = cc in
    elim (parts a b c d rest) [
      | inl p ↦ inl (p.0, cc (first, p.1), p.2)
      | inr p ↦ inr (p.0, cc (first, p.1), p.2)
    ]

longest_ends : (t r u s more : List ℕ) → IsLongest t r → IsLongest u s → u ≡ t ++ more → r ≡ more ++ s → (t ≡ u) × (r ≡ s)
longest_ends t r u s more l m e f =
    let none : more ≡ [] = l.no_longer more s f (rw e at m.is_one) in
    let same : u ≡ t = e ∙ ap (λ xs. t ++ xs) none ∙ append-nil t in
    (sym same, f ∙ ap (λ xs. xs ++ s) none)

longest_unique : (t r u s : List ℕ) → IsLongest t r → IsLongest u s → t ++ r ≡ u ++ s → (t ≡ u) × (r ≡ s)
longest_unique t r u s l m e =
    elim (parts t r u s e) [
      | inl p ↦ longest_ends t r u s p.0 l m p.1 p.2
      | inr p ↦ (let q = longest_ends u s t r p.0 m l p.1 p.2 in (sym q.0, sym q.1))
    ]

gap_no_letter : (b : ℕ) → goes_on_gap b ≡ true → is_letter b ≡ false
gap_no_letter b e = grind (arith, nat_tests)

gap_no_digit : (b : ℕ) → goes_on_gap b ≡ true → is_digit b ≡ false
gap_no_digit b e = grind (arith, nat_tests)

gap_no_single : (b : ℕ) → goes_on_gap b ≡ true → is_single_sign b ≡ false
gap_no_single b e = grind (arith, nat_tests)

gap_no_double : (b : ℕ) → goes_on_gap b ≡ true → is_double_sign b ≡ false
gap_no_double b e = grind (arith, nat_tests)

-- a word begins no gap
word_stops : (b : ℕ) (bs : List ℕ) → is_word (b ∷ bs) ≡ true → goes_on_gap b ≡ false
word_stops b bs w = by_case (goes_on_gap b) refl
  where
    by_case : (z : Bool) → goes_on_gap b ≡ z → goes_on_gap b ≡ false
    by_case false z = z
    by_case true z =
        let none = sign_of_word b bs (gap_no_letter b z) (gap_no_digit b z) ∙ no_sign b bs (gap_no_single b z) (gap_no_double b z) in
        absurd (false≢true (sym none ∙ w))

StopsAt-word : (text rest : List ℕ) → IsLongest text rest → StopsAt goes_on_gap (text ++ rest)
StopsAt-word [] rest l = absurd (false≢true l.is_one)
StopsAt-word (b ∷ bs) rest l = word_stops b bs l.is_one

same_word : (w v : Word) → w.kind ≡ v.kind → w.at ≡ v.at → w.len ≡ v.len → w.line ≡ v.line → w ≡ v
same_word w v a b c d = by_parts word_of w.kind v.kind w.at v.at w.len v.len w.line v.line a b c d
  where
    word_of : WordKind → ℕ → ℕ → ℕ → Word
    word_of kind at len line = record { kind = kind; at = at; len = len; line = line }

    by_parts : (f : WordKind → ℕ → ℕ → ℕ → Word) (k l : WordKind) (a b c d e g : ℕ) → k ≡ l → a ≡ b → c ≡ d → e ≡ g → f k a c e ≡ f l b d g
    by_parts f k l a b c d e g p q r s = cc

-- the next word of some bytes is one, and so is what is left behind it
next_unique : (at line : ℕ) (bytes : List ℕ) (w v : Word) (r s : List ℕ) → Next at line bytes w r → Next at line bytes v s → (w ≡ v) × (r ≡ s)
next_unique at line bytes w v r s n m =
    let g = gap_unique false n.gap (n.text ++ r) m.gap (m.text ++ s) n.between m.between (StopsAt-word n.text r n.longest) (StopsAt-word m.text s m.longest) (sym n.split ∙ m.split) in
    let t = longest_unique n.text r m.text s n.longest m.longest g.1 in
    let a : w.at ≡ v.at = n.place ∙ ap (λ xs. at + length xs) g.0 ∙ sym m.place in
    let b : w.kind ≡ v.kind = n.kind ∙ ap kind_of t.0 ∙ sym m.kind in
    let c : w.len ≡ v.len = n.len ∙ ap length t.0 ∙ sym m.len in
    let d : w.line ≡ v.line = n.in_line ∙ ap (λ xs. line + line_feeds xs) g.0 ∙ sym m.in_line in
    (same_word w v b a c d, t.1)

-- ---- all words

-- no word, short enough, comes next
record Ends (bytes : List ℕ) : Type 0 where
  stops : StopsAt goes_on_gap bytes
  none : (text rest : List ℕ) → bytes ≡ text ++ rest → IsLongest text rest → is_long_name text ≡ false → is_long_number text ≡ false → ⊥

no_next : (at line : ℕ) (bytes gap : List ℕ) (rest : List ℕ) (w : Word) (after : List ℕ) → bytes ≡ gap ++ rest → is_gap false gap rest ≡ true → Ends rest → Next at line bytes w after → ⊥
no_next at line bytes gap rest w after e g ends n =
    let u = gap_unique false gap rest n.gap (n.text ++ after) g n.between ends.stops (StopsAt-word n.text after n.longest) (sym e ∙ n.split) in
    ends.none n.text after u.1 n.longest n.short_name n.short_number

cons_same : (w v : Word) (ws vs : List Word) → w ≡ v → ws ≡ vs → w ∷ ws ≡ v ∷ vs
cons_same w v ws vs e f = cc

leaves_unique : (at line : ℕ) (bytes : List ℕ) (ws vs : List Word) (r s : List ℕ) → Leaves at line bytes ws r → Leaves at line bytes vs s → Ends r → Ends s → (ws ≡ vs) × (r ≡ s)
leaves_unique at line bytes [] [] r s l m e f =
    (refl, (gap_unique false l.0 r m.0 s l.2 m.2 e.stops f.stops (sym l.1 ∙ m.1)).1)
leaves_unique at line bytes [] (v ∷ vs) r s l m e f = absurd (no_next at line bytes l.0 r v m.0 l.1 l.2 e m.1)
leaves_unique at line bytes (w ∷ ws) [] r s l m e f = absurd (no_next at line bytes m.0 s w l.0 m.1 m.2 f l.1)
leaves_unique at line bytes (w ∷ ws) (v ∷ vs) r s l m e f =
    let n = next_unique at line bytes w v l.0 m.0 l.1 m.1 in
    let P : Word → Type 0 = λ x. Leaves (x.at + x.len) x.line m.0 vs s in
    let Q : List ℕ → Type 0 = λ x. Leaves (w.at + w.len) w.line x ws r in
    let t = leaves_unique (w.at + w.len) w.line m.0 ws vs r s (subst Q n.1 l.2) (subst P (sym n.0) m.2) e f in
    (cons_same w v ws vs n.0 t.0, t.1)

-- ---- what stands where the words end

no_text : (text rest : List ℕ) → [] ≡ text ++ rest → IsLongest text rest → ⊥
no_text [] rest e l = false≢true l.is_one
no_text (b ∷ text) rest e l = cc

Ends-nothing : Ends []
Ends-nothing = record { stops = tt; none = λ text rest e l n m. no_text text rest e l }

Ends-no_word : (bytes : List ℕ) → BeginsNoWord bytes → Ends bytes
Ends-no_word bytes b = record {
  stops = let P : List ℕ → Type 0 = StopsAt goes_on_gap in subst P (sym b.is) b.no_gap;
  none = λ text rest e l n m. false≢true (sym (b.no_word text rest e) ∙ l.is_one);
}

Ends-long : (test : List ℕ → Bool) (bytes : List ℕ) → Begins test bytes → ((text : List ℕ) → test text ≡ true → is_long_name text ≡ false → is_long_number text ≡ false → ⊥) → Ends bytes
Ends-long test bytes b long = record {
  stops = let P : List ℕ → Type 0 = StopsAt goes_on_gap in subst P (sym b.is) (StopsAt-word b.text b.rest b.longest);
  none = λ text rest e l n m.
      let u = longest_unique b.text b.rest text rest b.longest l (sym b.is ∙ e) in
      let passes : test text ≡ true = rw u.0 at b.passes in
      long text passes n m;
}

Ends-long_name : (bytes : List ℕ) → Begins is_long_name bytes → Ends bytes
Ends-long_name bytes b = Ends-long is_long_name bytes b (λ text e n m. false≢true (sym n ∙ e))

Ends-long_number : (bytes : List ℕ) → Begins is_long_number bytes → Ends bytes
Ends-long_number bytes b = Ends-long is_long_number bytes b (λ text e n m. false≢true (sym m ∙ e))

pub cut_unique : (bytes : List ℕ) (words others : List Word) → IsCut bytes words → IsCut bytes others → words ≡ others
cut_unique bytes words others l m = (leaves_unique 0 1 bytes words others [] [] l m Ends-nothing Ends-nothing).0

-- ---- refusals

reached_unique : (bytes : List ℕ) (a b : ℕ) (r s : List ℕ) → IsReached bytes a r → IsReached bytes b s → Ends r → Ends s → (a ≡ b) × (r ≡ s)
reached_unique bytes a b r s l m e f =
    let u = leaves_unique 0 1 bytes l.0 m.0 r s l.1 m.1 e f in
    let same = ap length u.1 in
    let p = l.2 in
    let q = m.2 in
    (omega arith, u.1)

letter_or_long : (test : List ℕ → Bool) (bytes : List ℕ) → BeginsNoWord bytes → Begins test bytes → ⊥
letter_or_long test bytes n b = false≢true (sym (n.no_word b.text b.rest b.is) ∙ b.longest.is_one)

no_name_number : (text : List ℕ) → is_name text ≡ true → is_number text ≡ true → ⊥
no_name_number [] e f = false≢true e
no_name_number (b ∷ bs) e f = false≢true (sym (letter_no_number b bs (and_parts (is_letter b) (list_all is_name_byte bs) e).0) ∙ f)

name_or_number : (bytes : List ℕ) → Begins is_long_name bytes → Begins is_long_number bytes → ⊥
name_or_number bytes b c =
    let u = longest_unique b.text b.rest c.text c.rest b.longest c.longest (sym b.is ∙ c.is) in
    let long : is_long_name c.text ≡ true = rw u.0 at b.passes in
    no_name_number c.text (and_parts (is_name c.text) (leb 33 (length c.text)) long).0 (and_parts (is_number c.text) (leb 39 (length c.text)) c.passes).0

no_reach : (bytes : List ℕ) (words : List Word) (at : ℕ) (rest : List ℕ) → IsCut bytes words → IsReached bytes at rest → Ends rest → rest ≡ []
no_reach bytes words at rest l r e = sym (leaves_unique 0 1 bytes words r.0 [] rest l r.1 Ends-nothing e).1

not_both : (test : List ℕ → Bool) (rest : List ℕ) → Begins test rest → rest ≡ [] → ⊥
not_both test rest b e = no_text b.text b.rest (sym e ∙ b.is) b.longest

-- bytes that are refused have no words
pub refused_uncut : (bytes : List ℕ) (why : CutRefused) (words : List Word) → IsRefused bytes why → why ≢ refusals.Memory → IsCut bytes words → ⊥
refused_uncut bytes (refusals.Letter at) words r free l =
    let none = no_reach bytes words at r.0 l r.1 (Ends-no_word r.0 r.2) in
    let is = r.2.is in
    cc
refused_uncut bytes (refusals.TooLongName at) words r free l =
    not_both is_long_name r.0 r.2 (no_reach bytes words at r.0 l r.1 (Ends-long_name r.0 r.2))
refused_uncut bytes (refusals.TooLongNumber at) words r free l =
    not_both is_long_number r.0 r.2 (no_reach bytes words at r.0 l r.1 (Ends-long_number r.0 r.2))
refused_uncut bytes refusals.Memory words r free l = free refl

-- bytes are refused at one place for one cause
pub refusal_unique : (bytes : List ℕ) (why other : CutRefused) → IsRefused bytes why → IsRefused bytes other → why ≢ refusals.Memory → other ≢ refusals.Memory → why ≡ other
refusal_unique bytes refusals.Memory other r s f g = absurd (f refl)
refusal_unique bytes (refusals.Letter a) refusals.Memory r s f g = absurd (g refl)
refusal_unique bytes (refusals.TooLongName a) refusals.Memory r s f g = absurd (g refl)
refusal_unique bytes (refusals.TooLongNumber a) refusals.Memory r s f g = absurd (g refl)
refusal_unique bytes (refusals.Letter a) (refusals.Letter b) r s f g =
    ap refusals.Letter (reached_unique bytes a b r.0 s.0 r.1 s.1 (Ends-no_word r.0 r.2) (Ends-no_word s.0 s.2)).0
refusal_unique bytes (refusals.TooLongName a) (refusals.TooLongName b) r s f g =
    ap refusals.TooLongName (reached_unique bytes a b r.0 s.0 r.1 s.1 (Ends-long_name r.0 r.2) (Ends-long_name s.0 s.2)).0
refusal_unique bytes (refusals.TooLongNumber a) (refusals.TooLongNumber b) r s f g =
    ap refusals.TooLongNumber (reached_unique bytes a b r.0 s.0 r.1 s.1 (Ends-long_number r.0 r.2) (Ends-long_number s.0 s.2)).0
refusal_unique bytes (refusals.Letter a) (refusals.TooLongName b) r s f g =
    let u = reached_unique bytes a b r.0 s.0 r.1 s.1 (Ends-no_word r.0 r.2) (Ends-long_name s.0 s.2) in
    absurd (letter_or_long is_long_name r.0 r.2 (subst (Begins is_long_name) (sym u.1) s.2))
refusal_unique bytes (refusals.Letter a) (refusals.TooLongNumber b) r s f g =
    let u = reached_unique bytes a b r.0 s.0 r.1 s.1 (Ends-no_word r.0 r.2) (Ends-long_number s.0 s.2) in
    absurd (letter_or_long is_long_number r.0 r.2 (subst (Begins is_long_number) (sym u.1) s.2))
refusal_unique bytes (refusals.TooLongName a) (refusals.Letter b) r s f g =
    let u = reached_unique bytes a b r.0 s.0 r.1 s.1 (Ends-long_name r.0 r.2) (Ends-no_word s.0 s.2) in
    absurd (letter_or_long is_long_name s.0 s.2 (subst (Begins is_long_name) u.1 r.2))
refusal_unique bytes (refusals.TooLongNumber a) (refusals.Letter b) r s f g =
    let u = reached_unique bytes a b r.0 s.0 r.1 s.1 (Ends-long_number r.0 r.2) (Ends-no_word s.0 s.2) in
    absurd (letter_or_long is_long_number s.0 s.2 (subst (Begins is_long_number) u.1 r.2))
refusal_unique bytes (refusals.TooLongName a) (refusals.TooLongNumber b) r s f g =
    let u = reached_unique bytes a b r.0 s.0 r.1 s.1 (Ends-long_name r.0 r.2) (Ends-long_number s.0 s.2) in
    absurd (name_or_number r.0 r.2 (subst (Begins is_long_number) (sym u.1) s.2))
refusal_unique bytes (refusals.TooLongNumber a) (refusals.TooLongName b) r s f g =
    let u = reached_unique bytes a b r.0 s.0 r.1 s.1 (Ends-long_number r.0 r.2) (Ends-long_name s.0 s.2) in
    absurd (name_or_number s.0 s.2 (subst (Begins is_long_number) u.1 r.2))
