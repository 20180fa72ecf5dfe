-- When two calls conflict.
use Rattle.std.specs.Prelude.{List, ℤ, Bool, not, ◌&&◌, ◌||◌, ◌==◌, []}
use Rattle.std.specs.List.{list_any}
use Rattle.spec_core.specs.declared.world.World.{World}
use Rattle.spec_core.specs.declared.world.Call.{Call}
use Rattle.spec_core.specs.declared.operation.Take.{Take}
use Rattle.spec_core.specs.declared.spec.Rule.{Rule}
use Rattle.spec_core.specs.Specification.{Specification, op_of}
use Rattle.spec_core.specs.Truth.{elems_of}
use Rattle.token_rules.specs.Assignment.{one_assignment}

-- A rule matches a takes line of a call with the first arguments and one of a call with the second: the lines aren't both shared,
-- their tokens are those of its patterns, and one assignment of elements to its variables gives both lists of elements.
abbrev pub lines_match : World → List ℤ → List ℤ → Rule → Take → Take → Bool
lines_match w one other rule t u =
    not (t.shared && u.shared) && (rule.left.token == t.token) && (rule.right.token == u.token)
    && one_assignment rule.left.vars (elems_of w one [] t.args) rule.right.vars
    (elems_of w other [] u.args)

-- some rule matches a takes line of the one call and one of the other, its left pattern at the one
abbrev pub matched : Specification → World → Call → Call → Bool
matched d w one other =
    list_any
    (λ rule. list_any
    (λ t. list_any (λ u. lines_match w one.args other.args rule t u) (op_of d other.op).takes)
    (op_of d one.op).takes)
    d.rules

-- Two calls conflict where some rule matches a takes line of the one and a takes line of the other, in either order.
abbrev pub conflicts : Specification → World → Call → Call → Bool
conflicts d w a b = matched d w a b || matched d w b a
