-- From a gap and a word at the front to the next word, and on to all words.
use Rattle.std.proofs.Common.{◌≡◌, ℕ, zero, suc, Result, Ok, Err, IfErr, IsErrAnd, ◌+◌, ◌<◌, ◌≤◌, Bool, true, false, List, [], ◌∷◌, ◌++◌, length, take, drop, refl, sym, ap, ◌∙◌, append_assoc, arith, subst, nat_eq, length-drop}
use Rattle.std.proofs.lemmas.List.{take-append-drop, append-nil, drop-drop, length-take-le}
use Rattle.std.proofs.lemmas.List.Sums.{count_by-le-length}
use Rattle.word_cut.specs.declared.word.Word.{Word}
use Rattle.word_cut.specs.declared.cutting.CutRefused.{CutRefused}
use Rattle.word_cut.specs.declared.cutting.CutRefused.TheVariants as refusals
use Rattle.word_cut.specs.Words.{is_gap, line_feeds, IsLongest, Leaves, Begins, IsCut, IsReached, IsRefused}
use Rattle.word_cut.specs.Fronts.{IsGapFront, IsWordFront, IsWordHere, IsNextWord, Behind, IsStuck}

pub IsWordFront-some : (bytes : List ℕ) (n : ℕ) → 0 < n → IsWordFront bytes n → IsLongest (take n bytes) (drop n bytes)
IsWordFront-some bytes zero h w = absurd (omega arith)
IsWordFront-some bytes (suc n) h w = w.1

pub Begins-front : (test : List ℕ → Bool) (bytes : List ℕ) (n : ℕ) → 0 < n → IsWordFront bytes n → test (take n bytes) ≡ true → Begins test bytes
Begins-front test bytes n h w e = record {
  text = take n bytes;
  rest = drop n bytes;
  is = sym (take-append-drop n bytes);
  longest = IsWordFront-some bytes n h w;
  passes = e;
}

-- the gap and the word at a place are the next word
pub IsNextWord-here : (bytes : List ℕ) (at line gap feeds : ℕ) (word : Word) → at ≤ length bytes → line ≤ at + 1 → IsGapFront (drop at bytes) gap → feeds ≡ line_feeds (take gap (drop at bytes)) → IsWordHere (drop gap (drop at bytes)) (at + gap) (line + feeds) word → IsNextWord bytes at line word
IsNextWord-here bytes at line gap feeds word h l g f w =
    let from = drop at bytes in
    let text = take word.len (drop gap from) in
    let d1 = length-drop at bytes in
    let d2 = length-drop gap from in
    let n1 : length (take gap from) ≡ gap = length-take-le gap from g.within in
    let n2 : length text ≡ word.len = length-take-le word.len (drop gap from) w.within in
    let cuts : take word.len (drop gap from) ++ drop word.len (drop gap from) ≡ drop gap from = take-append-drop word.len (drop gap from) in
    let whole : take gap from ++ drop gap from ≡ from = take-append-drop gap from in
    let e : drop word.len (drop gap from) ≡ drop (word.at + word.len) bytes =
    drop-drop word.len gap from ∙ drop-drop (gap + word.len) at bytes ∙ ap (λ n. drop n bytes) (omega (arith, w.place)) in
    let few = count_by-le-length (λ b. nat_eq b 10) (take gap from) in
    let after : text ++ drop (word.at + word.len) bytes ≡ drop gap from = rw (← e) cuts in
    record {
      next = record {
        gap = take gap from;
        text = text;
        split = sym (rw after whole);
        between = rw after g.gap;
        longest = rw (← e) w.longest;
        short_name = w.short_name;
        short_number = w.short_number;
        kind = w.kind;
        place = w.place ∙ ap (λ n. at + n) (sym n1);
        len = sym n2;
        in_line = w.in_line ∙ ap (λ n. line + n) f;
      };
      some = omega (arith, w.place, w.some);
      within = omega (arith, w.place, w.within);
      lines = omega (arith, w.place, w.in_line);
    }

-- the gap at a place, and what is behind it
pub Behind-gap : (bytes : List ℕ) (at gap : ℕ) → at ≤ length bytes → IsGapFront (drop at bytes) gap → Behind bytes at (at + gap) (drop gap (drop at bytes))
Behind-gap bytes at gap h g =
    let d1 = length-drop at bytes in
    let d2 = length-drop gap (drop at bytes) in
    let w = g.within in
    record {
      gap = take gap (drop at bytes);
      split = sym (take-append-drop gap (drop at bytes));
      between = g.gap;
      place = omega arith;
    }

-- where the gap at a place is all that is left
pub gap-all : (bytes : List ℕ) (at gap : ℕ) → IsGapFront (drop at bytes) gap → length (drop gap (drop at bytes)) ≡ 0 → is_gap false (drop at bytes) [] ≡ true
gap-all bytes at gap g e =
    let none : drop gap (drop at bytes) ≡ [] = length-zero (drop gap (drop at bytes)) e in
    let whole : take gap (drop at bytes) ≡ drop at bytes = sym (append-nil _) ∙ ap (λ xs. take gap (drop at bytes) ++ xs) (sym none) ∙ take-append-drop gap (drop at bytes) in
    let h = rw none at g.gap in
    rw (← whole) h
  where
    length-zero : (xs : List ℕ) → length xs ≡ 0 → xs ≡ []
    length-zero [] e = refl
    length-zero (x ∷ xs) e = absurd (omega arith)

-- ---- all words

-- What completes the words from a place on completes all of them.
pub record Grows (bytes : List ℕ) (words : List Word) (at line : ℕ) : Type 0 where
  pub within : at ≤ length bytes
  pub lines : line ≤ at + 1
  pub grows : (ws : List Word) (rest : List ℕ) → Leaves at line (drop at bytes) ws rest → Leaves 0 1 bytes (words ++ ws) rest

pub Grows-start : (bytes : List ℕ) → Grows bytes [] 0 1
Grows-start bytes = record {
  within = omega arith;
  lines = omega arith;
  grows = λ ws rest l. l;
}

pub Grows-more : (bytes : List ℕ) (words : List Word) (at line : ℕ) (word : Word) → Grows bytes words at line → IsNextWord bytes at line word → Grows bytes (words ++ word ∷ []) (word.at + word.len) word.line
Grows-more bytes words at line word g n = record {
  within = n.within;
  lines = omega (arith, n.lines);
  grows = λ ws rest l.
      rw append_assoc (g.grows (word ∷ ws) rest (drop (word.at + word.len) bytes, n.next, l));
}

pub IsCut-all : (bytes : List ℕ) (words : List Word) (at line : ℕ) → Grows bytes words at line → is_gap false (drop at bytes) [] ≡ true → IsCut bytes words
IsCut-all bytes words at line g e =
    rw append-nil at (g.grows [] [] (drop at bytes, sym (append-nil (drop at bytes)), e))

pub IsReached-behind : (bytes : List ℕ) (words : List Word) (at line place : ℕ) (rest : List ℕ) → Grows bytes words at line → Behind bytes at place rest → IsReached bytes place rest
IsReached-behind bytes words at line place rest g b =
    (words, rw append-nil at (g.grows [] rest (b.gap, b.split, b.between)), b.place)

pub IsRefused-stuck : (bytes : List ℕ) (words : List Word) (at line place : ℕ) (rest : List ℕ) (why : CutRefused) → Grows bytes words at line → Behind bytes at place rest → IsStuck rest place why → IsRefused bytes why
IsRefused-stuck bytes words at line place rest (refusals.Letter p) g b s = let e = s.0 in (rest, rw e (IsReached-behind bytes words at line place rest g b), s.1)
IsRefused-stuck bytes words at line place rest (refusals.TooLongName p) g b s = let e = s.0 in (rest, rw e (IsReached-behind bytes words at line place rest g b), s.1)
IsRefused-stuck bytes words at line place rest (refusals.TooLongNumber p) g b s = let e = s.0 in (rest, rw e (IsReached-behind bytes words at line place rest g b), s.1)
IsRefused-stuck bytes words at line place rest refusals.Memory g b s = tt

pub IfErr-same : {X : Type 0} (P : CutRefused → Type 0) (r : Result X CutRefused) (why : CutRefused) → IsErrAnd r (λ e. e ≡ why) → P why → IfErr r P
IfErr-same P (Ok x) why s p = tt
IfErr-same P (Err e) why s p = subst P (sym s) p
