-- A plan, an admitted message and a translation may be sent to threads, and shared by them.
use denote.Param.Send.{IsSend, IsSync, sendable}
use Rattle.std.proofs.Crossing.{crosses, Vec-send, Vec-sync}
use Rattle.std.proofs.MapsCrossing as maps
use Rattle.gw_er7.proofs.message.Message.TheSendSync as message
use Rattle.gw_profile.proofs.node.SegNode.TheSendSync as segment
use Rattle.gw_profile.proofs.table.Table.TheSendSync as table
use Rattle.gw_profile.proofs.node.Node.TheLaws.TheKnot as node
use Rattle.gw_profile.specs.contracts.node.Node as Node
use Rattle.gw_profile.specs.contracts.profile.Profile as Profile
use Rattle.gw_maplang.proofs.item.Item.TheLaws.TheKnot as raw
use Rattle.gw_maplang.proofs.item.FromItem.TheSendSync as from_item
use Rattle.gw_maplang.proofs.item.AlwaysItem.TheSendSync as always_item
use Rattle.gw_maplang.proofs.chosen.ChosenValues.TheSendSync as chosen
use Rattle.gw_maplang.proofs.table.Table.TheSendSync as rows
use Rattle.gw_maplang.proofs.rule.Dropped.TheSendSync as dropped
use Rattle.gw_maplang.specs.contracts.item.Item as RawItem
use Rattle.gw_maplang.specs.contracts.map.Map as Map
use Rattle.gw_resolve.proofs.resolved.Item.TheLaws.TheKnot as resolved
use Rattle.gw_resolve.proofs.resolved.SegmentItem.TheSendSync as item
use Rattle.gw_resolve.proofs.resolved.FieldCondition.TheSendSync as asked
use Rattle.gw_resolve.specs.contracts.resolved.Item as Item
use Rattle.gw_check.specs.contracts.checked.CheckedMap as CheckedMap
use Rattle.gw_validate.proofs.Crossing.{Found-send, Found-sync}
use Rattle.gw_validate.specs.contracts.tree.Tree as Tree
use Rattle.gw_plan.proofs.index.Index.TheSendSync as index
use Rattle.gw_plan.proofs.plan.Receiver.TheSendSync as receiver
use Rattle.gw_plan.specs.contracts.route.Route as Route
use Rattle.gw_plan.specs.contracts.plan.Plan as Plan
use Rattle.gw_plan.specs.contracts.conforming.Conforming as Conforming
use Rattle.gw_plan.specs.contracts.translated.Translated as Translated

-- ---- profiles

Node-send : IsSend (Node.the_field).row
Node-send = node.send-Node segment.the_field_send (search (crosses, sendable) depth 20) (search (crosses, sendable) depth 20) (search (crosses, sendable) depth 20) (λ h s. Vec-send h s)

Node-sync : IsSync (Node.the_field).row
Node-sync = node.sync-Node segment.the_field_sync (search (crosses, sendable) depth 20) (search (crosses, sendable) depth 20) (search (crosses, sendable) depth 20) (λ h s. Vec-sync h s)

Profile-send : IsSend (Profile.the_field).row
Profile-send = search (Node-send, table.the_send, maps.crosses, crosses, sendable) depth 60 fits 50000

Profile-sync : IsSync (Profile.the_field).row
Profile-sync = search (Node-sync, table.the_sync, maps.crosses, crosses, sendable) depth 60 fits 50000

-- ---- maps

RawItem-send : IsSend (RawItem.the_field).row
RawItem-send = raw.send-Item from_item.the_field_send always_item.the_field_send (search (crosses, sendable) depth 20) (search (chosen.the_send, crosses, sendable) depth 20) (λ h s. Vec-send h s) (search (crosses, sendable) depth 20)

RawItem-sync : IsSync (RawItem.the_field).row
RawItem-sync = raw.sync-Item from_item.the_field_sync always_item.the_field_sync (search (crosses, sendable) depth 20) (search (chosen.the_sync, crosses, sendable) depth 20) (λ h s. Vec-sync h s) (search (crosses, sendable) depth 20)

Map-send : IsSend (Map.the_field).row
Map-send = search (RawItem-send, rows.the_send, dropped.the_send, maps.crosses, crosses, sendable) depth 60 fits 50000

Map-sync : IsSync (Map.the_field).row
Map-sync = search (RawItem-sync, rows.the_sync, dropped.the_sync, maps.crosses, crosses, sendable) depth 60 fits 50000

Item-send : IsSend (Item.the_field).row
Item-send = resolved.send-Item item.the_field_send (search (crosses, sendable) depth 20) (search (crosses, sendable) depth 20) (search (asked.the_send, crosses, sendable) depth 20) (λ h s. Vec-send h s) (search (crosses, sendable) depth 20)

Item-sync : IsSync (Item.the_field).row
Item-sync = resolved.sync-Item item.the_field_sync (search (crosses, sendable) depth 20) (search (crosses, sendable) depth 20) (search (asked.the_sync, crosses, sendable) depth 20) (λ h s. Vec-sync h s) (search (crosses, sendable) depth 20)

CheckedMap-send : IsSend (CheckedMap.the_field).row
CheckedMap-send = search (Profile-send, Profile-sync, Map-send, Item-send, crosses, sendable) depth 60 fits 50000

CheckedMap-sync : IsSync (CheckedMap.the_field).row
CheckedMap-sync = search (Profile-send, Profile-sync, Map-sync, Item-sync, crosses, sendable) depth 60 fits 50000

-- ---- messages and plans

Tree-send : IsSend (Tree.the_field).row
Tree-send = search (Profile-send, Profile-sync, message.the_send, Found-send, crosses, sendable) depth 60 fits 50000

Tree-sync : IsSync (Tree.the_field).row
Tree-sync = search (Profile-send, Profile-sync, message.the_sync, Found-sync, crosses, sendable) depth 60 fits 50000

Route-send : IsSend (Route.the_field).row
Route-send = search (Profile-send, Profile-sync, CheckedMap-send, CheckedMap-sync, maps.crosses, crosses, sendable) depth 60 fits 50000

Route-sync : IsSync (Route.the_field).row
Route-sync = search (Profile-send, Profile-sync, CheckedMap-send, CheckedMap-sync, maps.crosses, crosses, sendable) depth 60 fits 50000

pub Plan-send : IsSend (Plan.the_field).row
Plan-send = search (Route-send, index.the_field_send, receiver.the_field_send, crosses, sendable) depth 60 fits 50000

pub Plan-sync : IsSync (Plan.the_field).row
Plan-sync = search (Route-sync, index.the_field_sync, receiver.the_field_sync, crosses, sendable) depth 60 fits 50000

pub Conforming-send : IsSend (Conforming.the_field).row
Conforming-send = search (Tree-send, Plan-send, Plan-sync, crosses, sendable) depth 60 fits 50000

pub Conforming-sync : IsSync (Conforming.the_field).row
Conforming-sync = search (Tree-sync, Plan-send, Plan-sync, crosses, sendable) depth 60 fits 50000

pub Translated-send : IsSend (Translated.the_field).row
Translated-send = search (Conforming-send, Conforming-sync, message.the_send, crosses, sendable) depth 60 fits 50000

pub Translated-sync : IsSync (Translated.the_field).row
Translated-sync = search (Conforming-send, Conforming-sync, message.the_sync, crosses, sendable) depth 60 fits 50000

-- as a set for `search`
pub ruleset plans_cross = (Plan-send, Plan-sync, Conforming-send, Conforming-sync, Translated-send, Translated-sync)
