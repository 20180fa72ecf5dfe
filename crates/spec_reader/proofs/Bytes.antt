-- From tokens to bytes and words.
use Rattle.std.proofs.Common.{◌≡◌, ℕ, zero, suc, ◌+◌, ◌-◌, ◌≤◌, List, [], ◌∷◌, ◌++◌, length, take, map, Ok, Err, refl, sym, ap, subst, ◌∙◌, arith}
use Rattle.std.specs.List.{AllByRecursion}
use Rattle.std.proofs.lemmas.List.{append-nil, take-map, map-append, length-map}
use Rattle.word_cut.specs.declared.word.Word.{Word}
use Rattle.word_cut.specs.Words.{IsCut, Stands, text_of}
use Rattle.word_cut.proofs.Standing.{words_stand}
use Rattle.parser_combinators.specs.declared.token.Symbol.{Symbol}
use Rattle.parser_combinators.specs.declared.token.Token.{Token}
use Rattle.parser_combinators.specs.Words.{seen, Spelt, plain, Matches}
use Rattle.parser_combinators.specs.Texts.{symbol_of, IsWord, AreWords}
use Rattle.parser_combinators.specs.Texts as words
use Rattle.parser_combinators.specs.Tokens.{tokens_from, tokens_of}
use Rattle.parser_combinators.proofs.Part.{Matches-seen, AreWords-append, length-seen}
use Rattle.spec_trees.specs.declared.tree.Tree.{Tree}
use Rattle.spec_trees.specs.Form.{TreeForm, tree_of}
use Rattle.spec_trees.specs.Spelling.{tree, spelling}
use Rattle.spec_trees.specs.Trees.{TreeFits, IsTree, SameTree}
use Rattle.spec_trees.specs.Place.{texts_of, IsPlaced, IsRead, Begins, IsPlace}
use Rattle.spec_reader.specs.Reading.{whole_by}
use Rattle.spec_reader.proofs.TreeParts.{Place}
use Rattle.spec_reader.proofs.TreeParts as parts
use Rattle.spec_reader.proofs.TreeCode.{found, none, place}
use Rattle.parser_combinators.proofs.TextFacts.{symbol_of-text, Stood, text_of-symbol}

stood : (bytes : List ℕ) (w : Word) → Stands bytes w → Stood (text_of bytes w)
stood bytes w s = text_of-symbol (text_of bytes w) s.is_one s.short_name s.short_number

-- the words of tokens are words, with the texts of the bytes

seen_words : (n : ℕ) (bytes : List ℕ) (ws : List Word) → AllByRecursion (Stands bytes) ws → AreWords (seen (tokens_from n bytes ws))
seen_words n bytes [] h = tt
seen_words n bytes (w ∷ ws) h = ((stood bytes w h.0).word, seen_words (n + 1) bytes ws h.1)

seen_texts : (n : ℕ) (bytes : List ℕ) (ws : List Word) → AllByRecursion (Stands bytes) ws → map words.text_of (seen (tokens_from n bytes ws)) ≡ texts_of bytes ws
seen_texts n bytes [] h = refl
seen_texts n bytes (w ∷ ws) h = λ i. (stood bytes w h.0).text_is i ∷ seen_texts (n + 1) bytes ws h.1 i

-- words are told by their texts

told : (ss : List Symbol) → AreWords ss → map symbol_of (map words.text_of ss) ≡ ss
told [] h = refl
told (s ∷ ss) h = λ i. symbol_of-text s h.0 i ∷ told ss h.1 i

same_words : (ss ts : List Symbol) → AreWords ss → AreWords ts → map words.text_of ss ≡ map words.text_of ts → ss ≡ ts
same_words ss ts h k e = sym (told ss h) ∙ ap (map symbol_of) e ∙ told ts k

take_words : (n : ℕ) (ss : List Symbol) → AreWords ss → AreWords (take n ss)
take_words zero ss h = take_none ss
  where
    take_none : (ss : List Symbol) → AreWords (take 0 ss)
    take_none [] = tt
    take_none (s ∷ ss) = tt
take_words (suc n) [] h = tt
take_words (suc n) (s ∷ ss) h = (h.0, take_words n ss h.1)

-- places

placed : (n : ℕ) (bytes : List ℕ) (xs : List Spelt) (ws : List Word) → Matches xs (tokens_from n bytes ws) [] → IsPlaced n xs
placed n bytes [] ws h = tt
placed n bytes (x ∷ xs) [] h = absurd h
placed n bytes (x ∷ xs) (w ∷ ws) h = (h.1, placed (n + 1) bytes xs ws h.2)

module _ (bytes : List ℕ) (ws : List Word) (cut : IsCut bytes ws) where
  all_seen : AreWords (seen (tokens_of bytes ws))
  all_seen = seen_words 0 bytes ws (words_stand bytes ws cut)

  all_texts : map words.text_of (seen (tokens_of bytes ws)) ≡ texts_of bytes ws
  all_texts = seen_texts 0 bytes ws (words_stand bytes ws cut)

  pub is_read : (t : Tree) → whole_by 199 (tokens_of bytes ws) ≡ Ok (tree_of t) → IsRead bytes ws (tree_of t)
  is_read t e =
      let f = found 199 (tokens_of bytes ws) t e in
      let same : seen (tokens_of bytes ws) ≡ plain (tree (tree_of t)) = Matches-seen (tree (tree_of t)) (tokens_of bytes ws) [] f.1 ∙ append-nil (plain (tree (tree_of t))) in
      ((f.0, subst AreWords same all_seen), ap (map words.text_of) (sym same) ∙ all_texts, placed 0 bytes (tree (tree_of t)) ws f.1)

  pub is_only : (n : ℕ) → whole_by 199 (tokens_of bytes ws) ≡ Err n → (t : TreeForm) → IsTree t → spelling t ≡ texts_of bytes ws → ⊥
  is_only n e t f s = none 199 (tokens_of bytes ws) n e t f.0 (same_words (plain (tree t)) (seen (tokens_of bytes ws)) f.1 all_seen (s ∙ sym all_texts))

  take_texts : (n : ℕ) → take n (texts_of bytes ws) ≡ map words.text_of (take n (seen (tokens_of bytes ws)))
  take_texts n = ap (take n) (sym all_texts) ∙ take-map words.text_of n (seen (tokens_of bytes ws))

  length_texts : length (texts_of bytes ws) ≡ length (seen (tokens_of bytes ws))
  length_texts = ap length (sym all_texts) ∙ length-map (seen (tokens_of bytes ws)) words.text_of

  -- the rest of a spelling that begins so
  rest_words : (t : TreeForm) (n : ℕ) (more : List (List ℕ)) → IsTree t → spelling t ≡ take n (texts_of bytes ws) ++ more → plain (tree t) ≡ take n (seen (tokens_of bytes ws)) ++ map symbol_of more
  rest_words t n more f e =
      sym (told (plain (tree t)) f.1) ∙ ap (map symbol_of) (e ∙ ap (λ (x : List (List ℕ)). x ++ more) (take_texts n)) ∙ map-append symbol_of (map words.text_of (take n (seen (tokens_of bytes ws)))) more ∙ ap (λ (x : List Symbol). x ++ map symbol_of more) (told (take n (seen (tokens_of bytes ws))) (take_words n (seen (tokens_of bytes ws)) all_seen))

  by_place : (n : ℕ) → Place 199 (seen (tokens_of bytes ws)) n → IsPlace (texts_of bytes ws) n
  by_place n p =
      let b = p.begins in
      let ss = seen (tokens_of bytes ws) in
      let all : AreWords (plain (tree b.0)) = subst AreWords (sym b.4) (AreWords-append (take n ss) b.1 (take_words n ss all_seen) b.3) in
      record {
        within = omega (arith, p.within, length_texts);
        begins = (b.0, map words.text_of b.1, (b.2, all), ap (map words.text_of) b.4 ∙ map-append words.text_of (take n ss) b.1 ∙ ap (λ (x : List (List ℕ)). x ++ map words.text_of b.1) (sym (take_texts n)));
        longest = λ m le c. p.longest m (omega (arith, le, length_texts)) c.0 (map symbol_of c.1) c.2.0 (rest_words c.0 m c.1 c.2 c.3);
      }

  pub is_place : (n : ℕ) → whole_by 199 (tokens_of bytes ws) ≡ Err n → IsPlace (texts_of bytes ws) (length (tokens_of bytes ws) - n)
  is_place n e = by_place (length (tokens_of bytes ws) - n) (place 199 (tokens_of bytes ws) n e)

pub one_spelling : (s t : TreeForm) → IsTree s → IsTree t → spelling s ≡ spelling t → SameTree s t
one_spelling s t f g e = parts.one_spelling 199 s t f.0 g.0 (same_words (plain (tree s)) (plain (tree t)) f.1 g.1 e)
