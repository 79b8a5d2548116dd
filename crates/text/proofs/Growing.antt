-- A buffer that grows by a text, part by part.
use Rattle.std.proofs.Common.{◌≡◌, ℕ, ◌≤◌, rules, List, [], ◌++◌, length, Ok, Err, Result, refl, ap, ◌∙◌, arith, length-append, take_at}
use lib.Seq.{take-append-le}
use Rattle.std.proofs.lemmas.List.{take_all, take-take}
use Rattle.std.proofs.lemmas.Grind.{common_steps}
use Rattle.stops.specs.declared.refusal.Refusal.{Refusal}
use Rattle.text.specs.declared.buffer.Buffer.{Buffer}
use Rattle.text.specs.Buffers.{content, Added, Partly}

-- from a to b all of a text was added but the rest
abbrev pub Left : Buffer → List ℕ → Buffer → List ℕ → Type 0
Left a all b rest = (content b ++ rest ≡ content a ++ all) × (length (content a) ≤ length (content b)) × (b.room ≡ a.room)

-- before anything was added
pub begun : (a : Buffer) (all : List ℕ) → Left a all a all
begun a all = search rules

-- after everything was
pub ended : (a : Buffer) (all : List ℕ) (b : Buffer) (u : Unit {0}) → Left a all b [] → Partly all a (Ok u) b
ended a all b u l = grind (arith, common_steps)

-- what adds a text or nothing may also be said to add it or a part
pub partly : (t : List ℕ) (a : Buffer) (r : Result (Unit {0}) Refusal) (b : Buffer) → Added t a r b → Partly t a r b
partly t a (Ok u) b h = h
partly t a (Err e) b h = search (rules, take_all)

module _ (a : Buffer) (all : List ℕ) (b c : Buffer) (t : List ℕ) where
  pub part_added : (u : Unit {0}) (rest : List ℕ) → Left a all b (t ++ rest) → Partly t b (Ok u) c → Left a all c rest
  part_added u rest l h = grind (arith, common_steps)

  -- where a part finds no room, the whole has none either
  pub part_refused : (e : Refusal) (rest : List ℕ) → Left a all b rest → length t ≤ length rest → Partly t b (Err e) c → Partly all a (Err e) c
  part_refused e rest l few h =
      let n = length (content a) in (
        h.0,
        omega (arith, simp length-append at (ap length l.0)),
        cc (take-take n (length (content b)) (content c) l.1, take-append-le n (content b) rest l.1, take_at (content a) all n refl),
        h.3 ∙ l.2,
      )

  -- both, where the part is the next of what is left
  pub next_added : (u : Unit {0}) (rest more : List ℕ) → Left a all b rest → rest ≡ t ++ more → Partly t b (Ok u) c → Left a all c more
  next_added u rest more l next h = part_added u more (rw next at l) h

  pub next_refused : (e : Refusal) (rest more : List ℕ) → Left a all b rest → rest ≡ t ++ more → Partly t b (Err e) c → Partly all a (Err e) c
  next_refused e rest more l next h = part_refused e rest l (omega (arith, simp length-append at (ap length next))) h

  pub last_added : (r : Result (Unit {0}) Refusal) → Left a all b t → Partly t b r c → Partly all a r c
  last_added (Ok u) l h = search rules
  last_added (Err e) l h = part_refused e t l (omega arith) h

-- a text in two parts
module _ (t u : List ℕ) (a b : Buffer) where
  pub both_added : (w : Unit {0}) (r : Result (Unit {0}) Refusal) (c : Buffer) → Partly t a (Ok w) b → Partly u b r c → Partly (t ++ u) a r c
  both_added w r c h k = last_added a (t ++ u) b c u r (part_added a (t ++ u) a b t w u (begun a (t ++ u)) h) k

  pub first_refused : (e : Refusal) → Partly t a (Err e) b → Partly (t ++ u) a (Err e) b
  first_refused e h = next_refused a (t ++ u) a b t e (t ++ u) u (begun a (t ++ u)) refl h
