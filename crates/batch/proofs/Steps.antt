-- What a turn of `read_all` keeps, and what its end gives. Assumes nothing.
use Rattle.std.proofs.Common.{◌≡◌, ℕ, ◌+◌, ◌*◌, ◌≤◌, List, [], ◌∷◌, ◌++◌, length, drop, Some, Ok, Err, Result, sym, refl, ap, ◌∙◌, subst, append_assoc, append-nil, add-zero, arith, length-append, drop-drop}
use mathlib.Core.List.{map-append}
use Rattle.std.proofs.lemmas.List.{flat_map_more}
use Rattle.std.specs.List.{AllByRecursion}
use Rattle.std.proofs.ByRecursion.{All-push}
use Rattle.figures.specs.declared.refusal.Refusal.{Refusal}
use Rattle.batch.specs.declared.reader.Reader.{Reader}
use Rattle.batch.specs.declared.placed.Placed.{Placed}
use Rattle.batch.specs.declared.record.Record.{Record}
use Rattle.batch.specs.declared.request.Request.{Request}
use Rattle.batch.specs.declared.unread.Unread.{Unread}
use Rattle.batch.specs.declared.unread.Unread.TheVariants.{Unreadable}
use Rattle.batch.specs.Layout.{layout, layouts, Fitting}
use Rattle.batch.specs.Reading.{ahead, here}
use Rattle.batch.specs.Records.{bytes}
use Rattle.batch.specs.Standing.{end, a_record, unreadable, standing, step, told}
use Rattle.batch.specs.Whole.{asked, PlacedFrom, ReadToEnd, Reads}
use Rattle.batch.proofs.Front.{splits, at_end}
use Rattle.batch.proofs.Unique.{seven, stands, some_bytes, Behind, behind}

-- the entries are the records before the reader, one after another
pub record Sofar (batch : List ℕ) (entries : List (Placed Request)) (reader : Reader) : Type 0 where
  pub same : reader.batch.now ≡ batch
  pub bytes : layouts (asked entries) ++ ahead reader ≡ batch
  pub reached : length (layouts (asked entries)) ≡ reader.place
  pub fitting : AllByRecursion Fitting (asked entries)
  pub placed : PlacedFrom 0 entries
  pub few : 7 * length entries ≤ reader.place

placed_push : (at : ℕ) (es : List (Placed Request)) (e : Placed Request) → PlacedFrom at es → e.place ≡ at + length (layouts (asked es)) → PlacedFrom at (es ++ e ∷ [])
placed_push at [] e p is = (is ∙ add-zero at, tt)
placed_push at (f ∷ es) e p is =
    let long = simp length-append at is in
    (p.0, placed_push (at + length (layout f.item)) es e p.1 (omega arith))

none_left : (qs : List Request) → [] ≡ layouts qs → qs ≡ []
none_left [] e = refl
none_left (q ∷ qs) e = absurd (some_bytes q (layouts qs) (sym e))

no_record : (refusal : Refusal) (place : ℕ) (q : Request) (tail : List ℕ) → unreadable refusal ≡ standing place (layout q ++ tail) → ⊥
no_record refusal place q tail e = cc (stands place q tail)

not_layouts : (refusal : Refusal) (place : ℕ) (qs : List Request) → unreadable refusal ≡ standing place (layouts qs) → ⊥
not_layouts refusal place [] e = cc
not_layouts refusal place (q ∷ qs) e = no_record refusal place q (layouts qs) e

module _ {batch : List ℕ} {es : List (Placed Request)} {reader : Reader} (s : Sofar batch es reader) where
  -- one record more, behind which the reader then stands
  pub one_more : (found : Placed Record) (q : Request) (next : Reader) (more : List (Placed Request)) → told (Ok (Some found)) ≡ here reader → layout q ≡ bytes found.item → Fitting q → next.place ≡ reader.place + step (here reader) → next.batch.now ≡ reader.batch.now → more ≡ es ++ record { place = found.place; item = q } ∷ [] → Sofar batch more next
  one_more found q next more stands is fits moved same pushed =
      let e : Placed Request = record { place = found.place; item = q } in
      let front = layout q in
      let split = splits reader.place found.place (ahead reader) front (ap (a_record found.place) is ∙ stands) in
      let steps : next.place ≡ reader.place + length front = moved ∙ ap (λ t. reader.place + step t) (sym stands) ∙ ap (λ l. reader.place + length l) (sym is) in
      let asks : asked (es ++ e ∷ []) ≡ asked es ++ q ∷ [] = map-append _ es (e ∷ []) in
      let all : layouts (asked (es ++ e ∷ [])) ≡ layouts (asked es) ++ front = ap layouts asks ∙ sym (flat_map_more layout [] (asked es) q) in
      let left : ahead next ≡ drop (length front) (ahead reader) = (λ i. drop (steps i) (same i)) ∙ sym (drop-drop (length front) reader.place reader.batch.now) in
      subst (λ l. Sofar batch l next) (sym pushed) (record {
        same = same ∙ s.same;
        bytes = (λ i. all i ++ left i) ∙ append_assoc (layouts (asked es)) front _ ∙ ap (λ l. layouts (asked es) ++ l) split.1 ∙ s.bytes;
        reached = ap length all ∙ length-append (layouts (asked es)) front ∙ ap (λ n. n + length front) s.reached ∙ sym steps;
        fitting = subst (AllByRecursion Fitting) (sym asks) (All-push Fitting (asked es) q s.fitting fits);
        placed = placed_push 0 es e s.placed (split.0 ∙ omega (arith, s.reached));
        few = simp length-append (omega (arith, s.few, seven q, steps));
      })

  -- the end of the batch
  pub ended : end ≡ here reader → ReadToEnd batch es
  ended stands =
      let whole : layouts (asked es) ≡ batch = sym (append-nil _) ∙ ap (λ l. layouts (asked es) ++ l) (sym (at_end reader.place (ahead reader) stands)) ∙ s.bytes in
      record {
        holds = record { fitting = s.fitting; bytes = whole };
        only = λ qs h. all_of qs (behind (asked es) qs [] s.fitting h.fitting (append-nil _ ∙ whole ∙ sym h.bytes));
        placed = s.placed;
      }
    where
      all_of : (qs : List Request) → Behind (asked es) qs [] → qs ≡ asked es
      all_of qs b = b.split ∙ ap (λ l. asked es ++ l) (none_left b.left b.bytes) ∙ append-nil (asked es)

  -- a place at which there is no record
  pub stuck : (refusal : Refusal) (r : Result (Unit {0}) Unread) → unreadable refusal ≡ here reader → r ≡ Err (Unreadable refusal) → Reads batch es r
  stuck refusal r stands is = subst (Reads batch es) (sym is) (record {
    rest = ahead reader;
    front = record { bytes = s.bytes; fitting = s.fitting; placed = s.placed };
    none = λ q tail fits e. no_record refusal reader.place q tail (stands ∙ ap (standing reader.place) (sym e));
    never = λ qs h. never qs (behind (asked es) qs (ahead reader) s.fitting h.fitting (s.bytes ∙ sym h.bytes));
    why = ap (λ n. standing n (ahead reader)) s.reached ∙ sym stands;
  })
    where
      never : (qs : List Request) → Behind (asked es) qs (ahead reader) → ⊥
      never qs b = not_layouts refusal reader.place b.left (stands ∙ ap (standing reader.place) b.bytes)
