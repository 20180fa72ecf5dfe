use Rattle.std.proofs.Common.{◌≡◌, true, subst, sym}
use Rattle.std.specs.List.{list_all}
use Rattle.std.specs.Str.{is_utf8}
use Rattle.spec_core.specs.Specification.{Specification}
use Rattle.schedule_json.proofs.Names.{sort_names}
use Rattle.schedule_json.proofs.worlds.read_sizes.Goals as goal

pub is_keyed_by_names-requires : goal.is_keyed_by_names-requires
is_keyed_by_names-requires c = rw c.as_slice.ensures (subst (λ (d : Specification). list_all is_utf8 d.sorts ≡ true) (sym c.spec.view_is) (sort_names c.args.spec.now c.well_formed-2.ensures))

pub read_each_size-requires : goal.read_each_size-requires
read_each_size-requires c = rw c.as_slice-in-Some.ensures (subst (λ (d : Specification). list_all is_utf8 d.sorts ≡ true) (sym c.spec.view_is) (sort_names c.args.spec.now c.well_formed-2.ensures))
