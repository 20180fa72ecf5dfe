-- The tie from the code to the readers of `Read`: what a call returns, seen by view, is what reading gives, unless memory runs out.
use Rattle.std.specs.Prelude.{◌≡◌, ℕ, Result, Ok, Err}
use Rattle.parser_combinators.specs.declared.fault.ReadError.{ReadError}
use Rattle.parser_combinators.specs.declared.fault.ReadError.TheVariants as errors

-- a failure at this number of words left; want of memory says nothing
abbrev pub Fails : {Y : Type 0} → ReadError → Result Y ℕ → Type 0
Fails errors.Memory read = Unit {0}
Fails (errors.Syntax n) read = read ≡ Err n

-- The code gives what the reader reads, or fails where it does.
abbrev pub Gives : {X Y : Type 0} → (X → Y) → Result X ReadError → Result Y ℕ → Type 0
Gives view (Ok x) read = read ≡ Ok (view x)
Gives view (Err e) read = Fails e read
