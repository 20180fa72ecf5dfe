-- The first fault of what stands in a list.
use Rattle.std.proofs.Common.{◌≡◌, List, [], ◌∷◌, ◌++◌, Option, None, Some, Result, refl, sym, ◌∙◌, ap}
use Rattle.typing_rules.specs.Fault.{Fault, ◌otherwise◌}
use Rattle.typing_rules.specs.Lines.{unless}
use Rattle.typing_rules.specs.Sites.{Site}
use Rattle.typing_rules.proofs.Deciding.{fault_at}

abbrev pub first_of : List Site → Option Fault
first_of [] = None
first_of (s ∷ ss) = fault_at s otherwise first_of ss

pub none_behind : (o : Option Fault) → (o otherwise None) ≡ o
none_behind None = refl
none_behind (Some f) = refl

pub in_three : (a b c : Option Fault) → ((a otherwise b) otherwise c) ≡ (a otherwise (b otherwise c))
in_three None b c = refl
in_three (Some f) b c = refl

-- what comes behind is asked only where nothing comes before
pub behind_none : (a b c : Option Fault) → (a ≡ None → b ≡ c) → (a otherwise b) ≡ (a otherwise c)
behind_none None b c h = h refl
behind_none (Some f) b c h = refl

pub first_append : (xs ys : List Site) → first_of (xs ++ ys) ≡ (first_of xs otherwise first_of ys)
first_append [] ys = refl
first_append (x ∷ xs) ys = ap (λ o. fault_at x otherwise o) (first_append xs ys) ∙ sym (in_three (fault_at x) (first_of xs) (first_of ys))

-- two parts, one behind the other
pub parts : (a b : Option Fault) (xs ys : List Site) → a ≡ first_of xs → (a ≡ None → b ≡ first_of ys) → (a otherwise b) ≡ first_of (xs ++ ys)
parts a b xs ys e f = behind_none a b (first_of ys) f ∙ ap (λ o. o otherwise first_of ys) e ∙ sym (first_append xs ys)

-- three things, the third of which holds where the first doesn't, and more
pub three_and_more : (a b c d r s : Option Fault) → (a ≡ None → c ≡ d) → r ≡ s → ((a otherwise (b otherwise c)) otherwise r) ≡ (a otherwise (b otherwise (d otherwise s)))
three_and_more None None c d r s h e = ap (λ o. o otherwise r) (h refl) ∙ ap (λ o. d otherwise o) e
three_and_more None (Some f) c d r s h e = refl
three_and_more (Some f) b c d r s h e = refl

pub unless_both : {A : Type 0} (a b : Option Fault) (r : Result A Fault) → unless a (unless b r) ≡ unless (a otherwise b) r
unless_both None b r = refl
unless_both (Some f) b r = refl
