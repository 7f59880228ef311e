use Rattle.std.proofs.Common.{rules, ◌≡◌, ◌+◌, ◌≤◌, ◌++◌, length, take, drop, List, All, sym, subst}
use Rattle.rdf_io.specs.Memory.{SourceState, SinkState, IsUnused}
use Rattle.rdf_io.proofs.LinkLemmas.{slice_back}
use Rattle.rdf_io.proofs.mem_door.MemDoor.keep.Goals as goal

pub invariant_of-self : goal.invariant_of-self
invariant_of-self c =
    let s = c.self.inside in
    let old = s.links.items in
    let new = c.restore.new.links in
    let count : length new ≡ length old = search rules in
    let len : s.links.len ≡ length old = search rules in
    let next : s.next ≡ s.done + 1 = search rules in
    let after : drop s.next new ≡ drop s.next old = subst (λ n. drop n new ≡ drop n old) (sym next) (search rules) in
    let back : take s.links.len (new ++ drop (length new) old) ≡ new = slice_back s.links.len new old count len in
    let places : (s.next ≤ s.next) × (s.next ≤ s.next + 1) × (s.next ≤ length new) = search rules in
    subst (λ (ls : List (SourceState × SinkState)). (s.next ≤ s.next) × (s.next ≤ s.next + 1) × (s.next ≤ length ls) × All IsUnused (drop s.next ls)) (sym back)
    (places.0, places.1, places.2, subst (All IsUnused) (sym after) c.self.invariant.3)
