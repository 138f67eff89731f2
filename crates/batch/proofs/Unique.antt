-- A batch holds at most one list of requests. Assumes nothing.
use Rattle.std.proofs.Common.{◌≤◌, length, length-append, rules, ◌≡◌, ℕ, ◌+◌, ◌*◌, ◌/◌, ◌%◌, cond, ◌&&◌, eqb, List, [], ◌∷◌, ◌++◌, get_or, ℤ, sym, refl, ap, ◌∙◌, append_assoc, arith, to_z-of_z, w32, SFits, to_z, of_z}
use mathlib.Core.List.{append_cancel_left}
use Rattle.batch.specs.declared.request.Request.{Request}
use Rattle.batch.specs.declared.request.Request.TheVariants.{Bid, Ask, MarketBid, MarketAsk, Withdrawal}
use Rattle.batch.specs.declared.request.Terms.{Terms}
use Rattle.std.specs.List.{AllByRecursion}
use Rattle.batch.specs.Layout.{layout, layouts, Fitting}
use Rattle.batch.specs.Standing.{a_record, standing}

-- the number that four bytes of a list spell
abbrev number : ℕ → List ℕ → ℕ
number at bs = get_or bs at 0 * 16777216 + get_or bs (at + 1) 0 * 65536 + get_or bs (at + 2) 0 * 256 + get_or bs (at + 3) 0

spelled : (n : ℕ) → n / 16777216 * 16777216 + n / 65536 % 256 * 65536 + n / 256 % 256 * 256 + n % 256 ≡ n
spelled n = grind arith

abbrev terms : List ℕ → Terms
terms bs = record { member = get_or bs 2 0; hour = number 3 bs; energy = number 7 bs }

-- the request whose record the bytes are
request : List ℕ → Request
request bs =
    cond (eqb (get_or bs 0 0) 0x4F && eqb (get_or bs 1 0) 0x42) (Bid (terms bs) (to_z w32 (number 11 bs)))
    (cond (eqb (get_or bs 0 0) 0x4F && eqb (get_or bs 1 0) 0x41) (Ask (terms bs) (to_z w32 (number 11 bs)))
    (cond (eqb (get_or bs 0 0) 0x4D && eqb (get_or bs 1 0) 0x42) (MarketBid (terms bs))
    (cond (eqb (get_or bs 0 0) 0x4D && eqb (get_or bs 1 0) 0x41) (MarketAsk (terms bs))
    (Withdrawal (get_or bs 2 0) (number 3 bs)))))

spelled_terms : (t : Terms) (bs : List ℕ) → get_or bs 2 0 ≡ t.member → number 3 bs ≡ t.hour → number 7 bs ≡ t.energy → terms bs ≡ t
spelled_terms t bs m h e = λ i. record { member = m i; hour = h i; energy = e i }

spelled_limit : (l : ℤ) → SFits w32 l → (n : ℕ) → n ≡ of_z w32 l → to_z w32 n ≡ l
spelled_limit l f n e = ap (to_z w32) e ∙ to_z-of_z f

of_layout : (q : Request) → Fitting q → request (layout q) ≡ q
unfolding request
of_layout (Bid t l) f = λ i. Bid (spelled_terms t (layout (Bid t l)) refl (spelled _) (spelled _) i) (spelled_limit l f.1 _ (spelled (of_z w32 l)) i)
of_layout (Ask t l) f = λ i. Ask (spelled_terms t (layout (Ask t l)) refl (spelled _) (spelled _) i) (spelled_limit l f.1 _ (spelled (of_z w32 l)) i)
of_layout (MarketBid t) f = λ i. MarketBid (spelled_terms t (layout (MarketBid t)) refl (spelled _) (spelled _) i)
of_layout (MarketAsk t) f = λ i. MarketAsk (spelled_terms t (layout (MarketAsk t)) refl (spelled _) (spelled _) i)
of_layout (Withdrawal m s) f = λ i. Withdrawal m (spelled s i)

-- a record stands where its bytes begin
pub stands : (place : ℕ) (q : Request) (tail : List ℕ) → standing place (layout q ++ tail) ≡ a_record place (layout q)
stands place (Bid t l) tail = search rules
stands place (Ask t l) tail = search rules
stands place (MarketBid t) tail = search rules
stands place (MarketAsk t) tail = search rules
stands place (Withdrawal m s) tail = search rules

-- two lists of bytes that are the same begin with the same record
pub same_first : (p q : Request) (x y : List ℕ) → Fitting p → Fitting q → layout p ++ x ≡ layout q ++ y → (p ≡ q) × (x ≡ y)
same_first p q x y fp fq e =
    let both : a_record 0 (layout p) ≡ a_record 0 (layout q) = sym (stands 0 p x) ∙ ap (standing 0) e ∙ stands 0 q y in
    let bytes : layout p ≡ layout q = cc in
    let tails : layout p ++ x ≡ layout p ++ y = e ∙ ap (λ l. l ++ y) (sym bytes) in
    (sym (of_layout p fp) ∙ ap request bytes ∙ of_layout q fq, append_cancel_left (layout p) x y tails)

-- the shortest record has seven bytes
pub seven : (q : Request) → 7 ≤ length (layout q)
seven (Bid t l) = omega arith
seven (Ask t l) = omega arith
seven (MarketBid t) = omega arith
seven (MarketAsk t) = omega arith
seven (Withdrawal m s) = omega arith

pub some_bytes : (q : Request) (tail : List ℕ) → layout q ++ tail ≡ [] → ⊥
some_bytes q tail e =
    let long = simp length-append at (ap length e) in
    omega (arith, seven q)

-- behind the records of ps stand the records of what is left of qs
pub record Behind (ps qs : List Request) (rest : List ℕ) : Type 0 where
  pub left : List Request
  pub split : qs ≡ ps ++ left
  pub bytes : rest ≡ layouts left

pub behind : (ps qs : List Request) (rest : List ℕ) → AllByRecursion Fitting ps → AllByRecursion Fitting qs → layouts ps ++ rest ≡ layouts qs → Behind ps qs rest
behind [] qs rest fp fq e = record { left = qs; split = refl; bytes = e }
behind (p ∷ ps) [] rest fp fq e = absurd (some_bytes p (layouts ps ++ rest) (sym (append_assoc (layout p) (layouts ps) rest) ∙ e))
behind (p ∷ ps) (q ∷ qs) rest fp fq e =
    let first = same_first p q (layouts ps ++ rest) (layouts qs) fp.0 fq.0 (sym (append_assoc (layout p) (layouts ps) rest) ∙ e) in
    let more = behind ps qs rest fp.1 fq.1 first.1 in
    record { left = more.left; split = (λ i. sym first.0 i ∷ more.split i); bytes = more.bytes }
