-- What it means that a batch was read: a relation between its bytes, the entries and the layout of a request. Assumes nothing.
use Rattle.std.specs.Prelude.{◌≡◌, ℕ, ◌+◌, List, [], ◌∷◌, ◌++◌, map, length, Ok, Err, Result, ◌≢◌}
use Rattle.std.specs.List.{AllByRecursion}
use Rattle.figures.specs.declared.refusal.Refusal.{Refusal}
use Rattle.batch.specs.declared.placed.Placed.{Placed}
use Rattle.batch.specs.declared.request.Request.{Request}
use Rattle.batch.specs.declared.unread.Unread.{Unread}
use Rattle.batch.specs.declared.unread.Unread.TheVariants.{Unreadable, NoMemory}
use Rattle.batch.specs.Layout.{layout, layouts, Fitting}
use Rattle.batch.specs.Standing.{standing, unreadable}

-- the batch is the records of these requests, one after another
pub record Holds (batch : List ℕ) (requests : List Request) : Type 0 where
  pub fitting : AllByRecursion Fitting requests
  pub bytes : layouts requests ≡ batch

-- the requests of the entries
abbrev pub asked : List (Placed Request) → List Request
asked entries = map (λ entry. entry.item) entries

-- each entry tells where its record begins, and the first begins at a place
abbrev pub PlacedFrom : ℕ → List (Placed Request) → Type 0
PlacedFrom place [] = Unit {0}
PlacedFrom place (entry ∷ entries) = (entry.place ≡ place) × PlacedFrom (place + length (layout entry.item)) entries

-- the entries are the requests that the batch holds, and it holds no others
pub record ReadToEnd (batch : List ℕ) (entries : List (Placed Request)) : Type 0 where
  pub holds : Holds batch (asked entries)
  pub only : (requests : List Request) → Holds batch requests → requests ≡ asked entries
  pub placed : PlacedFrom 0 entries

-- the batch begins with the records of the entries, and rest stands behind them
pub record Front (batch : List ℕ) (entries : List (Placed Request)) (rest : List ℕ) : Type 0 where
  pub bytes : layouts (asked entries) ++ rest ≡ batch
  pub fitting : AllByRecursion Fitting (asked entries)
  pub placed : PlacedFrom 0 entries

-- behind the records of the entries there is a place at which no record begins, so that the batch is not the records of any requests; the refusal is that of this place
pub record Stopped (batch : List ℕ) (entries : List (Placed Request)) (refusal : Refusal) : Type 0 where
  pub rest : List ℕ
  pub front : Front batch entries rest
  pub none : (request : Request) (tail : List ℕ) → Fitting request → layout request ++ tail ≢ rest
  pub never : (requests : List Request) → Holds batch requests → ⊥
  pub why : standing (length (layouts (asked entries))) rest ≡ unreadable refusal

abbrev pub Reads : List ℕ → List (Placed Request) → Result (Unit {0}) Unread → Type 0
Reads batch entries (Ok done) = ReadToEnd batch entries
Reads batch entries (Err (Unreadable refusal)) = Stopped batch entries refusal
Reads batch entries (Err NoMemory) = (rest : List ℕ) × Front batch entries rest
