-- Each entry of a serial journal is made of an accepted one of the past.
use Rattle.std.proofs.Common.{◌≡◌, ◌⊎◌, inl, inr, ℕ, ◌+◌, ◌-◌, ◌<◌, ◌≤◌, Bool, true, false, ◌&&◌, List, [], ◌∷◌, ◌++◌, length, map, take, refl, sym, ◌∙◌, ap, subst, cond, append_assoc, length-append, nat_lt, ltb-true, arith}
use Rattle.std.specs.Prelude.{Some, None, slice_get}
use Rattle.std.proofs.lemmas.List.{length-map}
use Rattle.std.proofs.lemmas.Bool.Decides.{nat_tests}
use Rattle.journal.specs.declared.txn.Txn.{Txn}
use Rattle.journal.specs.declared.op.Op.{Op}
use Rattle.journal.specs.declared.op.Op.TheVariants.{Begin, Read, Step, Write, Commit, Rollback, Ping, Names}
use Rattle.journal.specs.declared.entry.Entry.{Entry}
use Rattle.journal.specs.declared.limits.Limits.{Limits}
use Rattle.journal.specs.LevelLaws.{txn_itself}
use Rattle.journal.specs.Past.{Judged}
use Rattle.journal.specs.Journal.{entry_of}
use Rattle.journal.specs.Serial.{block_at, entries_of, is_of, renamed, serial_order}
use Rattle.journal.specs.SerialLaws.{IsAcceptedAt, IsOutsideAt, IsWithinAt, block_start}
use Rattle.journal.proofs.Growth.{joined-push, slice_get-append_at}
use Rattle.journal.proofs.Open.{by_push}
use Rattle.journal.proofs.Places.{take_front}
use Rattle.journal.proofs.SerialOrder.{serial_order-push}

-- one of two bounds
below : {P : Type 0} (i n : ℕ) → (i < n → P) → (n ≤ i → P) → P
below {P} i n yes_below no_more = go (nat_lt i n) refl
  where
    go : (b : Bool) → nat_lt i n ≡ b → P
    go true is = yes_below (ltb-true i n is)
    go false is = no_more (grind (arith, nat_tests))

module _ (limits : Limits) (past : List Judged) where
  -- the entry behind the front of the past
  got : (q : List Judged) (e : Judged) (r : List Judged) → q ++ e ∷ r ≡ past → slice_get past (length q) ≡ Some e
  got q e r split = ap (λ p. slice_get p (length q)) (sym split) ∙ slice_get-append_at q e r

  front : (q r : List Judged) → q ++ r ≡ past → take (length q) past ≡ q
  front q r split = ap (take (length q)) (sym split) ∙ take_front q r (length q) refl

  start_is : (q r : List Judged) → q ++ r ≡ past → block_start limits past (length q) ≡ length (serial_order limits q)
  start_is q r split = ap (λ p. length (serial_order limits p)) (front q r split)

  -- an entry of a transaction, with how many of them stand before it
  record IsNumbered (t : Txn) (number : ℕ) : Type 0 where
    place : ℕ
    entry : Entry
    accepted : IsAcceptedAt past place entry
    within : is_of t place entry.op ≡ true
    before : length (entries_of limits (take place past) t) ≡ number

  numbered : (t : Txn) (q r : List Judged) → q ++ r ≡ past → (i : ℕ) → i < length (entries_of limits q t) → IsNumbered t i
  unfolding entries_of
  numbered t = by_push (λ q. (r : List Judged) → q ++ r ≡ past → (i : ℕ) → i < length (entries_of limits q t) → IsNumbered t i) (λ r split i lt. absurd (omega arith))
      (λ q e ih r split i lt.
      let around : q ++ e ∷ r ≡ past = sym (append_assoc q (e ∷ []) r) ∙ split in
      one q e r around (ih (e ∷ r) around) i lt)
    where
      one : (q : List Judged) (e : Judged) (r : List Judged) → q ++ e ∷ r ≡ past → ((i : ℕ) → i < length (entries_of limits q t) → IsNumbered t i)
          → (i : ℕ) → i < length (entries_of limits (q ++ e ∷ []) t) → IsNumbered t i
      one q e r split before i lt = at e.accepted e.entry split (subst (λ n. i < n) long lt)
        where
          long : length (entries_of limits (q ++ e ∷ []) t) ≡ length (entries_of limits q t) + length (cond (e.accepted && is_of t (length q) e.entry.op) (e.entry ∷ []) [])
          long = ap (λ es. length es) (joined-push (λ before e. cond (e.accepted && is_of t (length before) e.entry.op) (e.entry ∷ []) []) q e)
              ∙ length-append (entries_of limits q t) (cond (e.accepted && is_of t (length q) e.entry.op) (e.entry ∷ []) [])

          at : (a : Bool) (x : Entry) → q ++ record { entry = x; accepted = a } ∷ r ≡ past → i < length (entries_of limits q t) + length (cond (a && is_of t (length q) x.op) (x ∷ []) []) → IsNumbered t i
          at false x split lt = before i (omega arith)
          at true x split lt = below i (length (entries_of limits q t)) (before i) (λ le. last (is_of t (length q) x.op) refl lt le)
            where
              last : (b : Bool) → is_of t (length q) x.op ≡ b → i < length (entries_of limits q t) + length (cond b (x ∷ []) []) → length (entries_of limits q t) ≤ i → IsNumbered t i
              last false mine lt le = absurd (omega arith)
              last true mine lt le = record {
                place = length q;
                entry = x;
                accepted = got q (record { entry = x; accepted = true }) r split;
                within = mine;
                before = ap (λ p. length (entries_of limits p t)) (front q (record { entry = x; accepted = true } ∷ r) split) ∙ (omega arith);
              }

  abbrev Made : ℕ → Type 0
  Made new = IsOutsideAt limits past new ⊎ IsWithinAt limits past new

  -- an entry of the block of an accepted entry
  in_block : (p : List Judged) (seat : ℕ) (op : Op) (r : List Judged) → p ++ record { entry = entry_of seat op; accepted = true } ∷ r ≡ past
      → (new : ℕ) → length (serial_order limits p) ≤ new
      → new < length (serial_order limits p) + length (block_at limits (length (serial_order limits p)) p (record { entry = entry_of seat op; accepted = true })) → Made new
  in_block p seat (Begin l) r split new le lt = absurd (omega arith)
  in_block p seat (Read None ask) r split new le lt = inl (record {
    place = length p;
    entry = entry_of seat (Read None ask);
    accepted = got p (record { entry = entry_of seat (Read None ask); accepted = true }) r split;
    outside = refl;
    is = omega (arith, le, lt, start_is p (record { entry = entry_of seat (Read None ask); accepted = true } ∷ r) split);
  })
  in_block p seat (Read (Some t) ask) r split new le lt = absurd (omega arith)
  in_block p seat (Step t query number) r split new le lt = absurd (omega arith)
  in_block p seat (Write None changes) r split new le lt = inl (record {
    place = length p;
    entry = entry_of seat (Write None changes);
    accepted = got p (record { entry = entry_of seat (Write None changes); accepted = true }) r split;
    outside = refl;
    is = omega (arith, le, lt, start_is p (record { entry = entry_of seat (Write None changes); accepted = true } ∷ r) split);
  })
  in_block p seat (Write (Some t) changes) r split new le lt = absurd (omega arith)
  in_block p seat (Commit t) r split new le lt =
      let c : Entry = entry_of seat (Commit t) in
      let j : Judged = record { entry = c; accepted = true } in
      let es : List Entry = entries_of limits p t in
      let start = start_is p (j ∷ r) split in
      let long : length (map (renamed (record { place = length (serial_order limits p); level = t.level })) (es ++ c ∷ [])) ≡ length (es ++ c ∷ []) = length-map (es ++ c ∷ []) _ in
      let longer = length-append es (c ∷ []) in
      below new (length (serial_order limits p) + length es)
      (λ lt.
      let i : ℕ = new - length (serial_order limits p) in
      let n = numbered t p (j ∷ r) split i (omega (arith, le, lt)) in
      let count = n.before in
      inr (record {
        txn = t;
        commit = length p;
        committed = (seat, got p j r split);
        place = n.place;
        entry = n.entry;
        accepted = n.accepted;
        within = n.within;
        is = omega (arith, le, lt, start, count);
      }))
      (λ more.
      let before = ap (λ q. length (entries_of limits q t)) (front p (j ∷ r) split) in
      inr (record {
        txn = t;
        commit = length p;
        committed = (seat, got p j r split);
        place = length p;
        entry = c;
        accepted = got p j r split;
        within = txn_itself t;
        is = omega (arith, more, lt, long, longer, start, before);
      }))
  in_block p seat (Rollback t) r split new le lt = absurd (omega arith)
  in_block p seat (Ping t) r split new le lt = absurd (omega arith)
  in_block p seat (Names names) r split new le lt = inl (record {
    place = length p;
    entry = entry_of seat (Names names);
    accepted = got p (record { entry = entry_of seat (Names names); accepted = true }) r split;
    outside = refl;
    is = omega (arith, le, lt, start_is p (record { entry = entry_of seat (Names names); accepted = true } ∷ r) split);
  })

  pub made_of : (p r : List Judged) → p ++ r ≡ past → (new : ℕ) → new < length (serial_order limits p) → IsOutsideAt limits past new ⊎ IsWithinAt limits past new
  unfolding serial_order
  made_of = by_push (λ p. (r : List Judged) → p ++ r ≡ past → (new : ℕ) → new < length (serial_order limits p) → Made new) (λ r split new lt. absurd (omega arith))
      (λ p e ih r split new lt.
      let around : p ++ e ∷ r ≡ past = sym (append_assoc p (e ∷ []) r) ∙ split in
      one p e r around (ih (e ∷ r) around) new lt)
    where
      one : (p : List Judged) (e : Judged) (r : List Judged) → p ++ e ∷ r ≡ past → ((new : ℕ) → new < length (serial_order limits p) → Made new)
          → (new : ℕ) → new < length (serial_order limits (p ++ e ∷ [])) → Made new
      one p e r split before new lt = at e.accepted split (subst (λ n. new < n) long lt)
        where
          long : length (serial_order limits (p ++ e ∷ [])) ≡ length (serial_order limits p) + length (block_at limits (length (serial_order limits p)) p e)
          long = ap (λ es. length es) (serial_order-push limits p e) ∙ length-append (serial_order limits p) (block_at limits (length (serial_order limits p)) p e)

          at : (a : Bool) → p ++ record { entry = e.entry; accepted = a } ∷ r ≡ past
              → new < length (serial_order limits p) + length (block_at limits (length (serial_order limits p)) p (record { entry = e.entry; accepted = a })) → Made new
          at false split lt = before new (omega arith)
          at true split lt = below new (length (serial_order limits p)) (before new) (λ le. in_block p e.entry.seat e.entry.op r split new le lt)
