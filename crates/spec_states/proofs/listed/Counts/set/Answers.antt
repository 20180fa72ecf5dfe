use Rattle.std.proofs.Common.{rules, ◌≡◌, ◌∙◌, ap, cond, true, sym, subst, w64, to_z, of_z, ◌||◌}
use Rattle.std.specs.BTreeMap.{insert_entry}
use Rattle.std.specs.Str.{bytes_eq}
use Rattle.std.proofs.lemmas.Int.{to_z-of_z}
use Rattle.spec_core.specs.State.{is_in, count_in, listed_keys}
use Rattle.std.proofs.lemmas.Bool.{and_parts, and_from}
use Rattle.spec_states.proofs.Entries.{counts_of, insert_count, insert_listed, insert_range, in_range, compare, rising_keys}
use Rattle.spec_states.proofs.listed.Counts.set.Goals as goal

pub invariant_of-self-2 : goal.invariant_of-self-2
invariant_of-self-2 c =
    let old = c.self.inside.entries.entries in
    let range = insert_range old c.in_ok-own.own c.args.value c.requires (and_parts _ _ c.self.invariant).1 in
    and_from _ _ (rising_keys c.insert.new.self.entries c.insert.ensures.ordered)
    (ap (λ es. in_range (counts_of es)) c.in_ok-insert.ensures.entries ∙ subst (λ v. in_range (counts_of (insert_entry compare old c.in_ok-own.own v)) ≡ true) (sym (to_z-of_z w64 c.args.value c.ranges.value)) range)

pub returns-clause-ok : goal.returns-clause-ok
returns-clause-ok c = λ q.
    let own : c.in_ok-own.own.items ≡ c.args.key.now = search rules in
    let old = c.self.inside.entries.entries in
    ap (λ es. count_in (counts_of es) q) c.in_ok-insert.ensures.entries
    ∙ insert_count old c.in_ok-own.own (to_z w64 (of_z w64 c.args.value)) q
    ∙ ap (λ v. cond (bytes_eq q c.in_ok-own.own.items) v (count_in (counts_of old) q)) (to_z-of_z w64 c.args.value c.ranges.value)
    ∙ ap (λ k. cond (bytes_eq q k) c.args.value (count_in (counts_of old) q)) own
    ∙ ap (λ es. cond (bytes_eq q c.args.key.now) c.args.value (count_in es q)) c.self.view_is

pub returns-clause-listed : goal.returns-clause-listed
returns-clause-listed c = λ q.
    let own : c.in_ok-own.own.items ≡ c.args.key.now = search rules in
    let old = c.self.inside.entries.entries in
    ap (λ es. is_in q (listed_keys (counts_of es))) c.in_ok-insert.ensures.entries
    ∙ insert_listed old c.in_ok-own.own (to_z w64 (of_z w64 c.args.value)) q
    ∙ ap (λ k. bytes_eq q k || is_in q (listed_keys (counts_of old))) own
    ∙ ap (λ es. bytes_eq q c.args.key.now || is_in q (listed_keys es)) c.self.view_is

pub returns-clause-counts : goal.returns-clause-counts
returns-clause-counts c =
    let old = c.self.inside.entries.entries in
    let range = insert_range old c.in_ok-own.own c.args.value c.requires (and_parts _ _ c.self.invariant).1 in
    and_from _ _ (rising_keys c.insert.new.self.entries c.insert.ensures.ordered)
    (ap (λ es. in_range (counts_of es)) c.in_ok-insert.ensures.entries ∙ subst (λ v. in_range (counts_of (insert_entry compare old c.in_ok-own.own v)) ≡ true) (sym (to_z-of_z w64 c.args.value c.ranges.value)) range)
