use Rattle.std.proofs.Common.{rules, ◌≡◌, ◌+◌, ◌≤◌, ◌∷◌, ◌++◌, length, take, drop, List, All, sym, subst}
use Rattle.rdf_io.specs.Memory.{SourceState, SinkState, IsUnused}
use Rattle.rdf_io.proofs.LinkLemmas.{slice_back, all_first, all_later}
use Rattle.rdf_io.proofs.mem_door.MemDoor.next_link.Goals as goal

pub invariant_of-self : goal.invariant_of-self
invariant_of-self c =
    let s = c.self.inside in
    let old = s.links.items in
    let new = c.lend-link.new.links in
    let count : length new ≡ length old = search rules in
    let len : s.links.len ≡ length old = search rules in
    let link : drop s.next old ≡ c.lend-link.result ∷ drop (s.next + 1) old = search rules in
    let after : drop (s.next + 1) new ≡ drop (s.next + 1) old = search rules in
    let back : take s.links.len (new ++ drop (length new) old) ≡ new = slice_back s.links.len new old count len in
    let unused : All IsUnused (drop (s.next + 1) new) =
    subst (All IsUnused) (sym after) (all_later IsUnused c.lend-link.result (drop (s.next + 1) old) (drop s.next old) link c.self.invariant.3) in
    let places : (s.done ≤ s.next + 1) × (s.next + 1 ≤ s.done + 1) × (s.next + 1 ≤ length new) = search rules in
    subst (λ (ls : List (SourceState × SinkState)). (s.done ≤ s.next + 1) × (s.next + 1 ≤ s.done + 1) × (s.next + 1 ≤ length ls) × All IsUnused (drop (s.next + 1) ls)) (sym back)
    (places.0, places.1, places.2, unused)

pub returns-clause-unused : goal.returns-clause-unused
returns-clause-unused c =
    let s = c.self.inside in
    let link : drop s.next s.links.items ≡ c.lend-link.result ∷ drop (s.next + 1) s.links.items = search rules in
    all_first IsUnused c.lend-link.result (drop (s.next + 1) s.links.items) (drop s.next s.links.items) link c.self.invariant.3
