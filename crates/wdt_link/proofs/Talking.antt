-- The talk of links that were taken back.
use Rattle.std.proofs.Common.{◌≡◌, List, [], ◌∷◌, ◌++◌, Option, Some, None, refl, ap, ◌∙◌}
use Rattle.wdt_link.specs.Links.{ByteLinkView}
use Rattle.wdt_link.specs.Memory.{talk_of}
use Rattle.wdt_link.specs.Talk.{Connection, HangsUp, connection_of, hung_up, joined}
use Rattle.wdt_link.specs.Traffic.{Traffic}

joined_behind : (first last : Option Traffic) (talk : Option (List Connection)) → joined first (hung_up talk last) ≡ hung_up (joined first talk) last
joined_behind None last talk = refl
joined_behind (Some t) last None = refl
joined_behind (Some t) None (Some talk) = refl
joined_behind (Some t) (Some u) (Some talk) = refl

first_of : (last : Option Traffic) → joined last (Some []) ≡ hung_up (Some []) last
first_of None = refl
first_of (Some t) = refl

-- a link that is taken back is the last one
pub talk_behind : (links : List ByteLinkView) (link : ByteLinkView) → talk_of (links ++ link ∷ []) ≡ hung_up (talk_of links) link.told
talk_behind [] link = first_of link.told
talk_behind (l ∷ links) link = ap (joined l.told) (talk_behind links link) ∙ joined_behind l.told link.told (talk_of links)

-- which is how a link is hung up
pub hangs_up : (talk : Option (List Connection)) (link : Option Traffic) → HangsUp talk link (hung_up talk link)
hangs_up None link = tt
hangs_up (Some talk) None = tt
hangs_up (Some talk) (Some t) = refl
