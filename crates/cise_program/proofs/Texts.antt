-- Texts that are put together from their parts.
use Rattle.std.proofs.Common.{◌≡◌, ℕ, List, [], ◌++◌, append_assoc}

-- three parts added to no text
pub three_added : (t t1 t2 t3 a b c : List ℕ) → t ≡ [] → t1 ≡ t ++ a → t2 ≡ t1 ++ b → t3 ≡ t2 ++ c → t3 ≡ a ++ (b ++ c)
three_added t t1 t2 t3 a b c e p q r = rw (r, q, p, e) (append_assoc a b c)
