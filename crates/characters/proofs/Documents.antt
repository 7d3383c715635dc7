-- What a document's contents have: they are in order, their texts are UTF-8, and all is few enough to count.
use Rattle.std.proofs.Common.{◌≡◌, ℕ, ◌-◌, ◌≤◌, true, ◌&&◌, length, get_or, drop, sum_by, unwrap_or, ap, ⊎_elim, arith, length-take}
use Rattle.std.specs.List.{range_with_len}
use Rattle.std.proofs.lemmas.List.FromFn.{length-range_with_len}
use Rattle.std.proofs.ByRecursion.{All-from_get_or, sum_by_le}
use Rattle.std.proofs.lemmas.List.Sums.{length-filter, count_by-le-length}
use Rattle.std.proofs.lemmas.Bool.{and_parts, cases_lt}
use Rattle.card.specs.declared.record.NodeKind.{NodeKind}
use Rattle.card.specs.declared.record.NodeKind.TheVariants as kind
use Rattle.card.specs.Contents.{item, bytes_of, is_text, below, numbers, texts_below}
use Rattle.card.specs.Order.{is_utf8, InOrder}
use Rattle.card.specs.Tables.{node, item_by}
use Rattle.card.specs.TableOrder.{in_use, filled}
use Rattle.card.proofs.Checked.{item_at, contents_in_order}
use Rattle.document.specs.declared.document.Document.{Document}
use Rattle.document.specs.Reads.{card_of}
use Rattle.document.proofs.Items.{tables_of, sound_of, length_card, past_nodes, in_use_within}
use Rattle.characters.specs.Characters.{characters, char_count}
use Rattle.characters.proofs.Firsts.{few_characters}
use Rattle.characters.proofs.Spans.{sum_few, length_characters}

module _ (d : Document) where
  pub in_order_of : InOrder (card_of d)
  unfolding card_of
  in_order_of = contents_in_order (tables_of d) d.counts (sound_of d).whole.nodes (sound_of d).order

  pub few_nodes : length (card_of d) ≤ 4096
  few_nodes = let n = (sound_of d).whole.nodes_few in let q = length_card d in omega arith

  -- a number's bytes are UTF-8, those of a number that is no text being none
  pub spelled_text : (k : ℕ) → is_utf8 (bytes_of (item (card_of d) k)) ≡ true
  unfolding is_utf8
  spelled_text k = ⊎_elim (λ l. (in_order_of.each k l).spelled) (λ l. ap (λ it. is_utf8 (bytes_of it)) (past_nodes d k (let q = length_card d in omega arith))) (cases_lt k (length (card_of d)))

  -- a number has at most 65536 bytes
  pub short_text : (k : ℕ) → length (bytes_of (item (card_of d) k)) ≤ 65536
  unfolding card_of
  short_text k =
      ⊎_elim
      (λ l. let z = ap (λ it. length (bytes_of it)) (item_at (tables_of d) d.counts k (sound_of d).whole.nodes l) in let s = short_kind (node (tables_of d) k).kind ((sound_of d).order.each k l).runs in omega arith)
      (λ l. let z = ap (λ it. length (bytes_of it)) (past_nodes d k l) in omega arith)
      (cases_lt k d.counts.nodes)
    where
      short_kind : (x : NodeKind) → filled (tables_of d) d.counts k x ≡ true → length (bytes_of (item_by (tables_of d) (unwrap_or (node (tables_of d) k).parent 0) x)) ≤ 65536
      short_kind kind.Root h = omega arith
      short_kind (kind.Element t run) h = omega arith
      short_kind (kind.Text run) h =
          let u = in_use_within d d.counts.bytes 65536 run (sound_of d).whole.bytes_few (and_parts (in_use d.counts.bytes run) _ h).0 in
          let l = length-take (run.end - run.start) (drop run.start (tables_of d).bytes) in
          omega arith

  -- so that it has at most as many characters, and all numbers together 4096 times as many
  pub few_in_text : (k : ℕ) → char_count (card_of d) k ≤ 65536
  few_in_text k = let a = few_characters (bytes_of (item (card_of d) k)) (spelled_text k) in let b = short_text k in omega arith

  pub few_in_all : (a n : ℕ) → n ≤ 4096 → sum_by (char_count (card_of d)) (range_with_len a n) ≤ 268435456
  few_in_all a n h = let s = sum_few (char_count (card_of d)) 65536 a n few_in_text in omega arith

  -- and so has every element
  pub few_of : (e : ℕ) → length (characters (card_of d) e) ≤ 268435456
  unfolding texts_below
  few_of e =
      let texts = texts_below (card_of d) e in
      let a = length_characters (card_of d) e in
      let b = sum_by_le (char_count (card_of d)) 65536 texts (All-from_get_or (λ k. char_count (card_of d) k ≤ 65536) texts 0 (λ i l. few_in_text (get_or texts i 0))) in
      let n = few_nodes in
      let m = length-filter (λ k. is_text (card_of d) k && below (card_of d) e k) (numbers (card_of d)) in
      let k = count_by-le-length (λ k. is_text (card_of d) k && below (card_of d) e k) (numbers (card_of d)) in
      let l = length-range_with_len 0 (length (card_of d)) in
      omega arith
