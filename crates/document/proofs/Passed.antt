-- What a card has whose check passed.
use Rattle.std.proofs.Common.{◌≡◌, ℕ, ◌≤◌, Bool, true, false, cond, ltb, length, is_ok, Some, None, Ok, Err, Option, Result, refl}
use mathlib.Core.Bool.{false≢true}
use Rattle.std.proofs.lemmas.Bool.{ltb-false}
use Rattle.card.specs.declared.fault.Fault.{Fault}
use Rattle.card.specs.declared.fault.Fault.TheVariants as fault
use Rattle.card.specs.declared.fault.Table.{Table}
use Rattle.card.specs.declared.fault.Table.TheVariants as table
use Rattle.card.specs.declared.record.TableCounts.{TableCounts}
use Rattle.card.specs.Tables.{Entries}
use Rattle.card.specs.TableOrder.{lowest_out_of_order}
use Rattle.card.proofs.Checked.{none_out}
use Rattle.order.specs.Checks.{then, table_checked, tables_checked, order_refused, card_checked, SoundCard}

-- both of two checks passed
both : (a b : Result (Unit {0}) Fault) → is_ok (then a b) ≡ true → (is_ok a ≡ true) × (is_ok b ≡ true)
both (Ok u) b h = (refl, h)
both (Err f) b h = absurd (false≢true h)

-- a table that passed has its entries
room : (t : Table) (entries count limit : ℕ) → is_ok (table_checked t entries count limit) ≡ true → (count ≤ entries) × (count ≤ limit)
room t entries count limit h = go (ltb entries count) (ltb limit count) refl refl h
  where
    go : (a b : Bool) → ltb entries count ≡ a → ltb limit count ≡ b → is_ok {T = Unit {0}} {E = Fault} (cond a (Err (fault.TableShort t)) (cond b (Err (fault.TableShort t)) (Ok tt))) ≡ true → (count ≤ entries) × (count ≤ limit)
    go true b p q k = absurd (false≢true k)
    go false true p q k = absurd (false≢true k)
    go false false p q k = (ltb-false entries count p, ltb-false limit count q)

-- no node is out of order
none_refused : (o : Option ℕ) → is_ok (order_refused o) ≡ true → o ≡ None
none_refused None h = refl
none_refused (Some k) h = absurd (false≢true h)

pub sound : (e : Entries) (c : TableCounts) → is_ok (card_checked e c) ≡ true → SoundCard e c
unfolding card_checked tables_checked
sound e c h =
    let a = both (tables_checked e c) (order_refused (lowest_out_of_order e c)) h in
    let n = both (table_checked table.Nodes (length e.nodes) c.nodes 4096) _ a.0 in
    let m = both (table_checked table.Attributes (length e.attributes) c.attributes 16384) _ n.1 in
    let b = both (table_checked table.Bytes (length e.bytes) c.bytes 65536) _ m.1 in
    let rn = room table.Nodes (length e.nodes) c.nodes 4096 n.0 in
    let ra = room table.Attributes (length e.attributes) c.attributes 16384 m.0 in
    let rb = room table.Bytes (length e.bytes) c.bytes 65536 b.0 in
    let rl = room table.Lengths (length e.lengths) c.lengths 16384 b.1 in
    record {
      whole = record { nodes = rn.0; nodes_few = rn.1; attributes = ra.0; attributes_few = ra.1; bytes = rb.0; bytes_few = rb.1; lengths = rl.0; lengths_few = rl.1 };
      order = none_out e c (none_refused (lowest_out_of_order e c) a.1);
    }
