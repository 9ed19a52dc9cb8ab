-- Offers and stored offsets keep that snapshots are truthful and that ids rise.
use Rattle.std.proofs.Common.{◌≡◌, ℕ, ◌^◌, ◌<◌, ◌≤◌, ◌⊎◌, List, [], ◌∷◌, ◌++◌, length, map, take, drop, refl, sym, ap, ◌∙◌, subst, append_assoc, inl, inr, arith, Option, Some, None, Bool, true, false, cond, zero, suc}
use Rattle.std.specs.Prelude.{ℤ, ◌==◌, nat_lt}
use Rattle.std.specs.List.{AllByRecursion, flat_map}
use Rattle.std.proofs.lemmas.Bool.{cases_lt}
use Rattle.std.proofs.lemmas.List.{append-nil, length-map, take-append-drop}
use Rattle.std.proofs.lemmas.List.Elements.{recursion_from_All, All-from_recursion}
use Rattle.chunk_format.specs.declared.chunk.Chunk.{Chunk}
use Rattle.chunk_format.specs.declared.chunk.ChunkKind.TheVariants.{Snapshot}
use Rattle.chunk_format.specs.Tags.{Tag, tag_bytes, IsName, IsTagOf, SpellsTags}
use Rattle.chunk_format.specs.Logs.{GoesOn, end_of, opening_chunk, Truthful}
use Rattle.chunk_format.specs.ByName.{same_name, ids_of, Greatest, AtMost, RisesIn}
use Rattle.chunk_format.proofs.NameLaws.{same_decides, ids_join, Rises, increases_from, rises_left, rises_in_front, rises_in_join}
use Rattle.chunk_format.proofs.TagRows.{Untagged, untagged_user, untagged_delta, untagged_snapshot, user_ids, user_other_ids}
use Rattle.chunk_format.proofs.TruthLaws.{truthful_none, truthful_begins, truthful_push, truthful_opens}
use Rattle.epoch_coordinator.specs.Offers.{Item, is_new, rising_from, accepted, user_chunk, offset_chunk, since_snapshot, snapshot_every, with_snapshot, most_entries, laid, chunk_count, offered_chunks, stored_chunks}
use Rattle.replication_laws.specs.Events.{IsOffer}
use Rattle.replication_laws.specs.Properties.{IsLogProperty, IsKeptByOffers}

-- ---- snapshots are truthful

with_true : (list : List Chunk) (c : Chunk) → (c.kind ≡ Snapshot → ⊥) → Truthful list → Truthful (list ++ with_snapshot list c)
with_true list c kind t = go (since_snapshot (list ++ c ∷ []) == snapshot_every)
  where
    after : Truthful (list ++ c ∷ [])
    after = truthful_push list c t (λ k. absurd (kind k))

    go : (b : Bool) → Truthful (list ++ cond b (c ∷ opening_chunk c.epoch c.stamp (list ++ c ∷ []) ∷ []) (c ∷ []))
    go false = after
    go true =
        subst Truthful (append_assoc list (c ∷ []) (opening_chunk c.epoch c.stamp (list ++ c ∷ []) ∷ []))
        (truthful_opens c.epoch c.stamp (list ++ c ∷ []) after)

laid_true : (n epoch : ℕ) (stamp : ℤ) (name : List ℕ) (list : List Chunk) (items : List Item) → Truthful list → Truthful (list ++ laid n epoch stamp name list items)
laid_true zero epoch stamp name list items t = subst Truthful (sym (append-nil list)) t
laid_true (suc n) epoch stamp name list items t =
    let c = user_chunk epoch stamp name (end_of list) (take most_entries items) in
    let chunks = with_snapshot list c in
    subst Truthful (append_assoc list chunks (laid n epoch stamp name (list ++ chunks) (drop most_entries items)))
    (laid_true n epoch stamp name (list ++ chunks) (drop most_entries items) (with_true list c (λ k. absurd cc) t))

pub truthful_property : IsLogProperty Truthful
truthful_property = record { none = truthful_none; beginnings = truthful_begins; openings = λ epoch stamp log is t. truthful_opens epoch stamp log t }

pub truthful_offers : IsKeptByOffers Truthful
truthful_offers = record {
  offers = λ epoch stamp name log items right all t. laid_true (chunk_count (length (accepted name log items))) epoch stamp name log (accepted name log items) t;
  offsets = λ epoch stamp name offset log all t. with_true log (offset_chunk epoch stamp name offset (end_of log)) (λ k. absurd cc) t;
}

-- ---- ids rise

ids_in : List Item → List ℕ
ids_in items = map (λ (item : Item). item.id) items

new_is : (g : Option ℕ) (id : ℕ) → is_new g id ≡ true → AtMost id g → ⊥
new_is None id h a = a
new_is (Some n) id h a = let lt = lt_is n id h in omega (arith, lt, a)
  where
    lt_is : (a b : ℕ) → nat_lt a b ≡ true → a < b
    lt_is a b h = grind arith

at_most_less : (g : Option ℕ) (a b : ℕ) → a < b → AtMost b g → AtMost a g
at_most_less None a b lt h = h
at_most_less (Some n) a b lt h = omega (arith, lt, h)

-- the items that are taken rise, and are above the greatest
record RisesOver (g : Option ℕ) (ids : List ℕ) : Type 0 where
  pub rises : Rises ids
  pub above : AllByRecursion (λ (id : ℕ). AtMost id g → ⊥) ids

all_map : {A : Type 0} (P Q : A → Type 0) → ((x : A) → P x → Q x) → (xs : List A) → AllByRecursion P xs → AllByRecursion Q xs
all_map P Q f [] h = tt
all_map P Q f (x ∷ xs) h = (f x h.0, all_map P Q f xs h.1)

taken_rise : (g : Option ℕ) (items : List Item) → RisesOver g (map (λ (item : Item). item.id) (rising_from g items))
taken_rise g [] = record { rises = tt; above = tt }
taken_rise g (item ∷ more) = go (is_new g item.id) refl (taken_rise (Some item.id) more) (taken_rise g more)
  where
    go : (b : Bool) → is_new g item.id ≡ b → RisesOver (Some item.id) (map (λ (i : Item). i.id) (rising_from (Some item.id) more)) → RisesOver g (map (λ (i : Item). i.id) (rising_from g more))
        → RisesOver g (map (λ (i : Item). i.id) (cond b (item ∷ rising_from (Some item.id) more) (rising_from g more)))
    go false e next rest = rest
    go true e next rest =
        let ids = map (λ (i : Item). i.id) (rising_from (Some item.id) more) in
        record {
          rises = (all_map (λ (id : ℕ). AtMost id (Some item.id) → ⊥) (λ (id : ℕ). item.id < id) (λ id h. higher item.id id h) ids next.above, next.rises);
          above = (new_is g item.id e, all_map (λ (id : ℕ). AtMost id (Some item.id) → ⊥) (λ (id : ℕ). AtMost id g → ⊥) (λ id h a. new_is g item.id e (at_most_less g item.id id (higher item.id id h) a)) ids next.above);
        }
      where
        higher : (a b : ℕ) → (b ≤ a → ⊥) → a < b
        higher a b h = elim (cases_lt a b) [ inl lt ↦ lt | inr ge ↦ absurd (h ge) ]

-- ---- the tags of a chunk of items

abbrev tag_of : List ℕ → Item → Tag
tag_of name item = record { name = name; id = item.id }

tags_spelled : (name : List ℕ) (items : List Item) → flat_map (λ (item : Item). tag_bytes (tag_of name item)) items ≡ flat_map tag_bytes (map (tag_of name) items)
tags_spelled name [] = refl
tags_spelled name (i ∷ items) = ap (λ (l : List ℕ). tag_bytes (tag_of name i) ++ l) (tags_spelled name items)

tag_ids : (name : List ℕ) (items : List Item) → map (λ (t : Tag). t.id) (map (tag_of name) items) ≡ map (λ (i : Item). i.id) items
tag_ids name [] = refl
tag_ids name (i ∷ items) = ap (λ (l : List ℕ). i.id ∷ l) (tag_ids name items)

tags_right : (name : List ℕ) (items : List Item) → IsName name → AllByRecursion (λ (i : Item). i.id < 2 ^ 64) items → AllByRecursion (IsTagOf name) (map (tag_of name) items)
tags_right name [] is h = tt
tags_right name (i ∷ items) is h = ((refl, (is, h.0)), tags_right name items is h.1)

abbrev spells : (epoch : ℕ) (stamp : ℤ) (x : ℕ) (name : List ℕ) (first : ℕ) (items : List Item) → IsName (x ∷ name) → AllByRecursion (λ (i : Item). i.id < 2 ^ 64) items
    → SpellsTags (length (user_chunk epoch stamp (x ∷ name) first items).entries) (user_chunk epoch stamp (x ∷ name) first items).trailer (map (tag_of (x ∷ name)) items)
spells epoch stamp x name first items is fits =
    let tags = map (tag_of (x ∷ name)) items in
    let count : length tags ≡ length (user_chunk epoch stamp (x ∷ name) first items).entries = length-map items (tag_of (x ∷ name)) ∙ sym (length-map items (λ (i : Item). i.entry)) in
    record {
      right = ((x ∷ name, All-from_recursion (IsTagOf (x ∷ name)) tags (tags_right (x ∷ name) items is fits)), omega (arith, count));
      whole = count;
      spelled = tags_spelled (x ∷ name) items;
    }

-- what a chunk of items says of a name
pub record SaysIds (name : List ℕ) (items : List Item) (chunks : List Chunk) : Type 0 where
  pub own : name ≡ [] ⊎ (ids_of name chunks ≡ map (λ (i : Item). i.id) items)
  pub other : (n : List ℕ) → (n ≡ name → ⊥) ⊎ (name ≡ []) → ids_of n chunks ≡ []

differ : (a b : List ℕ) → (b ≡ a → ⊥) → same_name a b ≡ false
differ a b ne = go (same_name a b) refl
  where
    go : (c : Bool) → same_name a b ≡ c → same_name a b ≡ false
    go true e = absurd (ne (sym ((same_decides a b).0 e)))
    go false e = e

pub chunk_says : (epoch : ℕ) (stamp : ℤ) (name : List ℕ) (first : ℕ) (items : List Item) → length name < 2 ^ 8 → AllByRecursion (λ (i : Item). i.id < 2 ^ 64) items → SaysIds name items (user_chunk epoch stamp name first items ∷ [])
chunk_says epoch stamp [] first items fits ids =
    let none = untagged_user (user_chunk epoch stamp [] first items) refl refl in
    record { own = inl refl; other = λ n h. none.no_ids n }
chunk_says epoch stamp (x ∷ name) first items fits ids =
    let c = user_chunk epoch stamp (x ∷ name) first items in
    let tags = map (tag_of (x ∷ name)) items in
    let s = spells epoch stamp x name first items (omega arith, fits) ids in
    record {
      own = inr (user_ids c tags refl s ∙ tag_ids (x ∷ name) items);
      other = λ n h. elim h [ inl ne ↦ user_other_ids c tags refl s n (differ (x ∷ name) n ne) | inr e ↦ absurd cc ];
    }

pub with_says : (list : List Chunk) (c : Chunk) (name : List ℕ) (items : List Item) → SaysIds name items (c ∷ []) → SaysIds name items (with_snapshot list c)
with_says list c name items s = go (since_snapshot (list ++ c ∷ []) == snapshot_every)
  where
    shot : Chunk
    shot = opening_chunk c.epoch c.stamp (list ++ c ∷ [])

    none : Untagged shot
    none = untagged_snapshot shot refl

    go : (b : Bool) → SaysIds name items (cond b (c ∷ shot ∷ []) (c ∷ []))
    go false = s
    go true = record {
      own = elim s.own [ inl e ↦ inl e | inr e ↦ inr (ids_join name (c ∷ []) (shot ∷ []) ∙ (ap (λ (l : List ℕ). ids_of name (c ∷ []) ++ l) (none.no_ids name) ∙ (append-nil (ids_of name (c ∷ [])) ∙ e))) ];
      other = λ n h. ids_join n (c ∷ []) (shot ∷ []) ∙ (ap (λ (l : List ℕ). ids_of n (c ∷ []) ++ l) (none.no_ids n) ∙ (append-nil (ids_of n (c ∷ [])) ∙ s.other n h));
    }

pub each_left : {A : Type 0} (P : A → Type 0) (xs ys : List A) → AllByRecursion P (xs ++ ys) → AllByRecursion P xs
each_left P [] ys h = tt
each_left P (x ∷ xs) ys h = (h.0, each_left P xs ys h.1)

pub each_right : {A : Type 0} (P : A → Type 0) (xs ys : List A) → AllByRecursion P (xs ++ ys) → AllByRecursion P ys
each_right P [] ys h = h
each_right P (x ∷ xs) ys h = each_right P xs ys h.1

-- what is laid out says at most the items' ids, in order
record SaysAtMost (name : List ℕ) (items : List Item) (chunks : List Chunk) : Type 0 where
  pub own : name ≡ [] ⊎ GoesOn (ids_of name chunks) (map (λ (i : Item). i.id) items)
  pub other : (n : List ℕ) → (n ≡ name → ⊥) ⊎ (name ≡ []) → ids_of n chunks ≡ []

pub map_join : (a b : List Item) → map (λ (i : Item). i.id) (a ++ b) ≡ map (λ (i : Item). i.id) a ++ map (λ (i : Item). i.id) b
map_join [] b = refl
map_join (x ∷ a) b = ap (λ (l : List ℕ). x.id ∷ l) (map_join a b)

laid_says : (n epoch : ℕ) (stamp : ℤ) (name : List ℕ) (list : List Chunk) (items : List Item) → length name < 2 ^ 8 → AllByRecursion (λ (i : Item). i.id < 2 ^ 64) items → SaysAtMost name items (laid n epoch stamp name list items)
laid_says zero epoch stamp name list items fits ids = record { own = inr (map (λ (i : Item). i.id) items, refl); other = λ n h. refl }
laid_says (suc n) epoch stamp name list items fits ids =
    let front = take most_entries items in
    let back = drop most_entries items in
    let parts : front ++ back ≡ items = take-append-drop most_entries items in
    let both : AllByRecursion (λ (i : Item). i.id < 2 ^ 64) (front ++ back) = subst (AllByRecursion (λ (i : Item). i.id < 2 ^ 64)) (sym parts) ids in
    let c = user_chunk epoch stamp name (end_of list) front in
    let chunks = with_snapshot list c in
    let more = laid n epoch stamp name (list ++ chunks) back in
    let one = with_says list c name front (chunk_says epoch stamp name (end_of list) front fits (each_left (λ (i : Item). i.id < 2 ^ 64) front back both)) in
    let rest = laid_says n epoch stamp name (list ++ chunks) back fits (each_right (λ (i : Item). i.id < 2 ^ 64) front back both) in
    record {
      own = elim one.own [
        | inl e ↦ inl e
        | inr e ↦ elim rest.own [
          | inl e2 ↦ inl e2
          | inr p ↦ inr (
            p.0,
            ap (map (λ (i : Item). i.id)) (sym parts) ∙ (map_join front back ∙ (ap (λ (l : List ℕ). map (λ (i : Item). i.id) front ++ l) p.1
                ∙ (sym (append_assoc (map (λ (i : Item). i.id) front) (ids_of name more) p.0) ∙ ap (λ (l : List ℕ). l ++ p.0) (ap (λ (l : List ℕ). l ++ ids_of name more) (sym e) ∙ sym (ids_join name chunks more))))),
          )
        ]
      ];
      other = λ m h. ids_join m chunks more ∙ (ap (λ (l : List ℕ). l ++ ids_of m more) (one.other m h) ∙ rest.other m h);
    }

-- a list of names is another or not
names_either : (a b : List ℕ) → (a ≡ b) ⊎ (a ≡ b → ⊥)
names_either a b = go (same_name a b) refl
  where
    go : (c : Bool) → same_name a b ≡ c → (a ≡ b) ⊎ (a ≡ b → ⊥)
    go true e = inl ((same_decides a b).0 e)
    go false e = inr (λ s. let both : true ≡ false = sym ((same_decides a b).1 s) ∙ e in absurd cc)

-- chunks whose ids of one name rise above those before, and that say nothing of others
rises_by : (name : List ℕ) (list chunks : List Chunk) → RisesIn list → RisesOver (Greatest name list) (ids_of name chunks) ⊎ (name ≡ []) → ((n : List ℕ) → (n ≡ name → ⊥) ⊎ (name ≡ []) → ids_of n chunks ≡ []) → RisesIn (list ++ chunks)
rises_by name list chunks r own other = rises_in_join list chunks r (λ n. increases_from (ids_of n chunks) (rise n (names_either n name) own)) (λ n. All-from_recursion _ (ids_of n chunks) (over n (names_either n name) own))
  where
    none_rise : (n : List ℕ) → ids_of n chunks ≡ [] → Rises (ids_of n chunks)
    none_rise n e = subst Rises (sym e) tt

    none_over : (n : List ℕ) → ids_of n chunks ≡ [] → AllByRecursion (λ (id : ℕ). AtMost id (Greatest n list) → ⊥) (ids_of n chunks)
    none_over n e = subst (AllByRecursion (λ (id : ℕ). AtMost id (Greatest n list) → ⊥)) (sym e) tt

    rise : (n : List ℕ) → (n ≡ name) ⊎ (n ≡ name → ⊥) → RisesOver (Greatest name list) (ids_of name chunks) ⊎ (name ≡ []) → Rises (ids_of n chunks)
    rise n (inr ne) o = none_rise n (other n (inl ne))
    rise n (inl e) (inl o) = subst (λ (m : List ℕ). Rises (ids_of m chunks)) (sym e) o.rises
    rise n (inl e) (inr nil) = none_rise n (other n (inr nil))

    over : (n : List ℕ) → (n ≡ name) ⊎ (n ≡ name → ⊥) → RisesOver (Greatest name list) (ids_of name chunks) ⊎ (name ≡ []) → AllByRecursion (λ (id : ℕ). AtMost id (Greatest n list) → ⊥) (ids_of n chunks)
    over n (inr ne) o = none_over n (other n (inl ne))
    over n (inl e) (inl o) = subst (λ (m : List ℕ). AllByRecursion (λ (id : ℕ). AtMost id (Greatest m list) → ⊥) (ids_of m chunks)) (sym e) o.above
    over n (inl e) (inr nil) = none_over n (other n (inr nil))

pub rising_fits : (g : Option ℕ) (items : List Item) → AllByRecursion (λ (i : Item). i.id < 2 ^ 64) items → AllByRecursion (λ (i : Item). i.id < 2 ^ 64) (rising_from g items)
rising_fits g [] h = tt
rising_fits g (item ∷ more) h = go (is_new g item.id) (rising_fits (Some item.id) more h.1) (rising_fits g more h.1)
  where
    go : (b : Bool) → AllByRecursion (λ (i : Item). i.id < 2 ^ 64) (rising_from (Some item.id) more) → AllByRecursion (λ (i : Item). i.id < 2 ^ 64) (rising_from g more)
        → AllByRecursion (λ (i : Item). i.id < 2 ^ 64) (cond b (item ∷ rising_from (Some item.id) more) (rising_from g more))
    go true next rest = (h.0, next)
    go false next rest = rest

over_front : (g : Option ℕ) (a b : List ℕ) → GoesOn a b → RisesOver g b → RisesOver g a
over_front g a b p r =
    let whole : RisesOver g (a ++ p.0) = subst (RisesOver g) p.1 r in
    record { rises = rises_left a p.0 whole.rises; above = each_left (λ (id : ℕ). AtMost id g → ⊥) a p.0 whole.above }

offered_rise : (epoch : ℕ) (stamp : ℤ) (name : List ℕ) (log : List Chunk) (items : List Item) → IsOffer name items → RisesIn log → RisesIn (log ++ offered_chunks epoch stamp name log items)
offered_rise epoch stamp [] log items right r =
    let says = laid_says (chunk_count (length items)) epoch stamp [] log items right.name_fits (recursion_from_All (λ (i : Item). i.id < 2 ^ 64) items right.ids_fit) in
    rises_by [] log (offered_chunks epoch stamp [] log items) r (inr refl) says.other
offered_rise epoch stamp (x ∷ name) log items right r =
    let n = x ∷ name in
    let g = Greatest n log in
    let taken = rising_from g items in
    let fits = rising_fits g items (recursion_from_All (λ (i : Item). i.id < 2 ^ 64) items right.ids_fit) in
    let says = laid_says (chunk_count (length taken)) epoch stamp n log taken right.name_fits fits in
    rises_by n log (offered_chunks epoch stamp n log items) r
    (elim says.own [ inl e ↦ inr e | inr p ↦ inl (over_front g (ids_of n (offered_chunks epoch stamp n log items)) (map (λ (i : Item). i.id) taken) p (taken_rise g items)) ]) says.other

stored_rise : (epoch : ℕ) (stamp : ℤ) (name : List ℕ) (offset : ℕ) (log : List Chunk) → RisesIn log → RisesIn (log ++ stored_chunks epoch stamp name offset log)
stored_rise epoch stamp name offset log r =
    let c = offset_chunk epoch stamp name offset (end_of log) in
    let none = untagged_delta c refl in
    let s = with_says log c [] [] (record { own = inl refl; other = λ n h. none.no_ids n }) in
    rises_by [] log (stored_chunks epoch stamp name offset log) r (inr refl) s.other

pub rises_property : IsLogProperty RisesIn
rises_property = record {
  none = λ name. increases_from [] tt;
  beginnings = λ front log p r. rises_in_front front p.0 (subst RisesIn p.1 r);
  openings = λ epoch stamp log is r.
      let c = opening_chunk epoch stamp log in
      let none = untagged_snapshot c refl in
      rises_by [] log (c ∷ []) r (inr refl) (λ n h. none.no_ids n);
}

pub rises_offers : IsKeptByOffers RisesIn
rises_offers = record {
  offers = λ epoch stamp name log items right all r. offered_rise epoch stamp name log items right r;
  offsets = λ epoch stamp name offset log all r. stored_rise epoch stamp name offset log r;
}
