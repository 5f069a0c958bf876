-- The root is an entry: its block of l octets, its groups with the surplus ones, its data.
use mathlib.Core.Path.{◌≡◌, refl, sym, ◌∙◌}
use mathlib.Core.List.{List, map}
use mathlib.Core.Bool.{true}
use Prim.Native.Nat.{ℕ, ◌+◌}
use lib.Dec.{leb}
use lib.ListN.{length}
use Rattle.layout.specs.Result.{done, must, ◌>>=◌}
use Rattle.layout.specs.Values.{Values, entry, listing, nil}
use Rattle.layout.specs.Message.{Entry, read_block, read_datas, read_entries, read_field}
use Rattle.layout.specs.declared.Answer.{Answer}
use Rattle.layout.proofs.Results.{done_inj}
use Rattle.prepared.specs.Positions.{inner_at, is_big, shape_at}
use Rattle.walk.specs.Walks.{entry_by, groups_by}
use Rattle.walk.proofs.Datas.{datas_surplus}
use Rattle.prints.specs.Prints.{got, printed}
use Rattle.prints.proofs.Steps.{passed, step}
use Rattle.store.specs.Stores.{entries_print}

module _ (p : List ℕ) (depth a : ℕ) (m : List ℕ) (v surplus l at : ℕ) where
  root_is_lem : (g : Values × ℕ) (d : List Answer × ℕ) → leb (at + l) (length m) ≡ true
      → groups_by p m v (inner_at p depth a) depth surplus (at + l) ≡ done g
      → read_datas (is_big p) m v (shape_at p a).datas 0 g.1 ≡ done d
      → entries_print p depth a m v surplus 0 l 1 at
      ≡ got d.1 (listing (entry (map (read_field (is_big p) m v at) (shape_at p a).fields) g.0 d.0 nil))
  unfolding entries_print read_entries read_block must printed ◌>>=◌
  root_is_lem g d a b c = rw (a, b, c) refl

  -- `over` data are surplus: they stand last and have no record.
  pub root_prints : (over : ℕ) (e : Entry)
      → entry_by p m v (shape_at p a) (inner_at p depth a) depth surplus over l at ≡ done e
      → (end : ℕ) × (entries_print p depth a m v surplus 0 l 1 at ≡ got end (listing (entry e.0 e.1 e.2 nil)))
  unfolding read_block
  root_prints over e is =
      passed _ _ _ _ _ is λ fits one.
      step (groups_by p m v (inner_at p depth a) depth surplus (at + l)) _ _ one λ g groups two.
      step (read_datas (is_big p) m v (shape_at p a).datas over g.1) _ _ two λ ds datas whole.
      step _ _ _ (sym (datas_surplus (is_big p) m over v (shape_at p a).datas g.1) ∙ datas) λ d known three.
      step _ _ _ three λ x skipped cut.
      (d.1, rw (← (done_inj whole), ← (done_inj cut)) (root_is_lem g d fits groups known))
