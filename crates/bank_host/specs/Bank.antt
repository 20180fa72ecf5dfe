-- The bank: accounts with a balance, into which one deposits, and from which one withdraws with the purse of the account.
use Rattle.std.specs.Prelude.{ℕ, ℤ, pos, negsuc, false, List, [], ◌∷◌, codes}
use Rattle.spec_core.specs.declared.formula.Elem.{Elem}
use Rattle.spec_core.specs.declared.formula.Elem.TheVariants as elem
use Rattle.spec_core.specs.declared.formula.Cmp.TheVariants.{AtLeast}
use Rattle.spec_core.specs.declared.formula.Body.TheVariants as body
use Rattle.spec_core.specs.declared.formula.Term.{Term}
use Rattle.spec_core.specs.declared.line.Prefix.TheVariants.{Plain, Forall}
use Rattle.spec_core.specs.declared.operation.Kind.TheVariants as kind
use Rattle.spec_core.specs.declared.operation.Param.{Param}
use Rattle.spec_core.specs.declared.operation.Take.{Take}
use Rattle.spec_core.specs.declared.operation.Operation.{Operation}
use Rattle.spec_core.specs.declared.update.Thing.TheVariants as thing
use Rattle.spec_core.specs.declared.update.Spot.TheVariants.{One}
use Rattle.spec_core.specs.declared.update.Change.TheVariants.{Add}
use Rattle.spec_core.specs.declared.spec.Counter.{Counter}
use Rattle.spec_core.specs.declared.spec.Token.{Token}
use Rattle.spec_core.specs.declared.spec.Pattern.{Pattern}
use Rattle.spec_core.specs.declared.spec.Rule.{Rule}
use Rattle.spec_core.specs.declared.spec.Invariant.{Invariant}
use Rattle.spec_core.specs.Form.{Form, true_form, compare_form}
use Rattle.spec_core.specs.Line.{Line}
use Rattle.spec_core.specs.UpdateLine.{UpdateLine}
use Rattle.spec_core.specs.Specification.{Specification}

-- the one sort, `Account`
abbrev pub account : ℕ
account = 0

-- the one counter, `balance`
abbrev pub balance : ℕ
balance = 0

-- the one token, `purse`
abbrev pub purse : ℕ
purse = 0

-- ---- declarations

-- `counter balance ( Account )`, 0 to begin with
abbrev pub the_counter : Counter
the_counter = record { name = codes "balance"; keys = account ∷ []; initial = pos 0 }

-- `token purse ( Account )`
abbrev pub the_token : Token
the_token = record { name = codes "purse"; places = account ∷ [] }

-- `purse ( x )`, in a rule
abbrev pub pattern : Pattern
pattern = record { token = purse; vars = 0 ∷ [] }

-- `conflict purse ( x ) purse ( x )`
abbrev pub the_rule : Rule
the_rule = record { left = pattern; right = pattern }

-- ---- terms and lines

-- `0`
abbrev pub nothing : Term
nothing = record { summands = record { coef = pos 0; body = body.One } ∷ [] }

-- the amount n, with this coefficient
abbrev pub amount_times : ℤ → Term
amount_times coef = record { summands = record { coef = coef; body = body.Param 1 } ∷ [] }

-- `balance ( .. )`
abbrev pub balance_of : Elem → Term
balance_of e =
    record { summands = record { coef = pos 1; body = body.Count balance (e ∷ []) } ∷ [] }

-- a line without variables
abbrev pub plain : Form → Line
plain f = record { prefix = Plain; vars = []; body = f }

-- `invariant solvent forall a : Account . ( balance ( a ) >= 0 )`
abbrev pub solvent : Invariant
solvent = record {
  name = codes "solvent";
  line = record {
    prefix = Forall;
    vars = account ∷ [];
    body = compare_form (balance_of (elem.Var 0)) AtLeast nothing;
  };
}

-- `requires ( n >= 0 )`
abbrev pub no_debt : Line
no_debt = plain (compare_form (amount_times (pos 1)) AtLeast nothing)

-- `requires ( balance ( a ) >= n )`
abbrev pub covered : Line
covered = plain (compare_form (balance_of (elem.Param 0)) AtLeast (amount_times (pos 1)))

-- ---- operations on an account a, with an amount n

-- the parameters `( a : Account , n : int )`
abbrev pub params : List Param
params =
    record { name = codes "a"; kind = kind.Sort account }
    ∷ record { name = codes "n"; kind = kind.Int } ∷ []

-- `add balance ( a )` with the amount, or with minus the amount
abbrev pub add_to_balance : ℤ → UpdateLine
add_to_balance coef = record {
  thing = thing.Counter balance;
  at = One (elem.Param 0) ∷ [];
  change = Add (amount_times coef);
  guard = true_form;
}

-- `takes purse ( a )`
abbrev pub takes_purse : Take
takes_purse = record { token = purse; args = elem.Param 0 ∷ []; shared = false }

-- `operation deposit`
abbrev pub deposit : Operation
deposit = record {
  name = codes "deposit";
  params = params;
  requires_ = no_debt ∷ [];
  updates = add_to_balance (pos 1) ∷ [];
  takes = [];
  observes = [];
}

-- `operation withdraw`
abbrev pub withdraw : Operation
withdraw = record {
  name = codes "withdraw";
  params = params;
  requires_ = no_debt ∷ covered ∷ [];
  updates = add_to_balance (negsuc 0) ∷ [];
  takes = takes_purse ∷ [];
  observes = [];
}

-- ---- the whole

-- The specification of the bank.
abbrev pub bank : Specification
bank = record {
  version = 1;
  sorts = codes "Account" ∷ [];
  consts = [];
  relations = [];
  counters = the_counter ∷ [];
  tokens = the_token ∷ [];
  rules = the_rule ∷ [];
  invariants = solvent ∷ [];
  operations = deposit ∷ withdraw ∷ [];
}
